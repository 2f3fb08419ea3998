-- The events of each cycle of a run are those of the routed sessions.
use Rattle.std.proofs.Common.{◌≡◌, ◌<◌, ◌∙◌, ◌+◌, ℕ, List, [], ◌∷◌, Some, ap, arith, filter, inl}
use Rattle.std.proofs.Common.{get_or, inr, map, refl, slice_get, subst, sym, ◌==◌, eq-eqb, eqb-true}
use Rattle.std.proofs.lemmas.{Bool.cases_Bool, Bool.cases_lt, List.Kept.AllPairs-filter}
use Rattle.std.proofs.lemmas.{Option.get_or_from_slice_get, Option.slice_get_within}
use Rattle.std.specs.List.{AllPairs, zip}
use Rattle.aeth_base.proofs.Members.{Contains-filter, Contains-map, filter-Contains, map-Contains}
use Rattle.aeth_tables.proofs.ListLaws.{has_place, place_in}
use Rattle.aeth_components.specs.{Switching.Touches, Switching.Writes, declared.event.Event.Event}
use Rattle.aeth_accepted.{specs.Inputs.AreAccepted, specs.Inputs.Inputs, proofs.SoundRuns.AreSpans}
use Rattle.aeth_routed_sessions.specs.RoutedSessions.{routed_sessions_of}
use Rattle.aeth_refinement.specs.Events.{AreEvents, IsEventOf, Occurs}
use Rattle.aeth_schedule.specs.{Switching.events_at, Switching.timed_of, declared.timed.Timed.Timed}
use Rattle.aeth_stimuli.specs.{Events.events_in, Stimuli.stimuli_of}
use Rattle.aeth_stimuli.proofs.EventsOfSessions.{event-is}
use Rattle.aeth_stimuli.proofs.Pairs.{pairs-map}
use Rattle.aeth_stimuli.proofs.RunEvents.{caused, timed-precede}
use Rattle.aeth_stimuli.proofs.SessionEvents.{HappensAt, finishes, frees, halts, sets, slots_clear}
use Rattle.aeth_stimuli.proofs.SessionEvents.{slots_set}
use Rattle.aeth_stimuli.proofs.SwitchOrder.{ArePlacedApart, Precedes}

-- ---- once

-- Events that are apart stand apart at two places.
apart-at : (events : List Event) → AllPairs ArePlacedApart events → (i j : ℕ) (one other : Event)
    → i < j → slice_get events i ≡ Some one → slice_get events j ≡ Some other
    → ArePlacedApart one other
apart-at events pairs i j one other less at_i at_j =
    subst (λ (x : Event). ArePlacedApart x other) (get_or_from_slice_get events i one one at_i)
    (subst (λ (x : Event). ArePlacedApart (get_or events i one) x)
    (get_or_from_slice_get events j other one at_j)
    (pairs i j one less (slice_get_within events j other at_j)))

-- So no two change one queue.
pub queue-once : (events : List Event) → AllPairs ArePlacedApart events
    → (i j ni queue : ℕ) (one other : Event) → slice_get events i ≡ Some one
    → slice_get events j ≡ Some other → Touches one ni queue → Touches other ni queue → i ≡ j
queue-once events pairs i j ni queue one other at_i at_j touches too = elim (cases_lt i j) [
  | inl less ↦
      absurd ((apart-at events pairs i j one other less at_i at_j).queues ni queue touches too)
  | inr late ↦ elim (cases_lt j i) [
    | inl less ↦
        absurd ((apart-at events pairs j i other one less at_j at_i).queues ni queue too touches)
    | inr same ↦ omega (arith, late, same)
  ]
]

-- And no two write one slot.
pub slot-once : (events : List Event) → AllPairs ArePlacedApart events
    → (i j ni slot : ℕ) (one other : Event) → slice_get events i ≡ Some one
    → slice_get events j ≡ Some other → Writes one ni slot → Writes other ni slot → i ≡ j
slot-once events pairs i j ni slot one other at_i at_j writes too = elim (cases_lt i j) [
  | inl less ↦
      absurd ((apart-at events pairs i j one other less at_i at_j).slots ni slot writes too)
  | inr late ↦ elim (cases_lt j i) [
    | inl less ↦
        absurd ((apart-at events pairs j i other one less at_j at_i).slots ni slot too writes)
    | inr same ↦ omega (arith, late, same)
  ]
]

-- ---- the events of a cycle

-- Those of cycles and events side by side are those of events in their cycles.
zip-events : (t : ℕ) (xs : List Timed)
    → map (λ timed. timed.1) (filter (λ timed. timed.0 == t)
    (zip (map (λ (one : Timed). one.cycle) xs) (map (λ (one : Timed). one.event) xs)))
    ≡ map (λ (one : Timed). one.event) (filter (λ (one : Timed). one.cycle == t) xs)
zip-events t [] = refl
zip-events t (x ∷ xs) =
    let rest = zip-events t xs in
    elim (cases_Bool (x.cycle == t)) [
      | inl here ↦ rw here (ap (λ (events : List Event). x.event ∷ events) rest)
      | inr other ↦ rw other rest
    ]

module _ (inputs : Inputs) (accepted : AreAccepted inputs) where
  -- What happens in a cycle occurs among its events.
  occurs : (t : ℕ) (event : Event) → HappensAt inputs accepted t event
      → Occurs (events_at inputs t) event
  occurs t event has =
      let one : Timed = record { cycle = t; event = event } in
      let test = λ (x : Timed). x.cycle == t in
      place_in (events_at inputs t) event
      (Contains-map (λ (x : Timed). x.event) (filter test (timed_of inputs)) one
      (Contains-filter test (timed_of inputs) one has (eq-eqb t t refl)))

  -- An event of a cycle is one of a session.
  only : (t i : ℕ) (event : Event) → slice_get (events_at inputs t) i ≡ Some event
      → IsEventOf (routed_sessions_of inputs) (t + 1) event
  only t i event at =
      let test = λ (x : Timed). x.cycle == t in
      let (one, same, kept) = map-Contains (λ (x : Timed). x.event) (filter test (timed_of inputs))
      event (has_place (events_at inputs t) i event at) in
      let (listed, passes) = filter-Contains test (timed_of inputs) one kept in
      let (switch, is_switch, has) = caused inputs accepted one listed in
      let now = eqb-true one.cycle t passes in
      subst (λ (x : Event). IsEventOf (routed_sessions_of inputs) (t + 1) x) same
      (subst (λ (k : ℕ). IsEventOf (routed_sessions_of inputs) (k + 1) one.event) now
      (event-is inputs accepted switch is_switch one has))

  module _ (spans : AreSpans inputs accepted) where
    -- The events of a cycle are apart.
    events-apart : (t : ℕ) → AllPairs ArePlacedApart (events_at inputs t)
    events-apart t =
        let test = λ (x : Timed). x.cycle == t in
        pairs-map (λ (x : Timed). x.event) Precedes ArePlacedApart (filter test (timed_of inputs))
        (λ x y has_x has_y precedes. precedes.apart
        (eqb-true x.cycle t (filter-Contains test (timed_of inputs) x has_x).1
        ∙ sym (eqb-true y.cycle t (filter-Contains test (timed_of inputs) y has_y).1)))
        (AllPairs-filter Precedes test (timed_of inputs) (timed-precede inputs accepted spans))

    pub are-events : (t : ℕ) → t < inputs.cycles
        → AreEvents (routed_sessions_of inputs) (t + 1) (events_in (stimuli_of inputs) t)
    are-events t early =
        let events = events_at inputs t in
        let now : AreEvents (routed_sessions_of inputs) (t + 1) (events_at inputs t) = record {
          only = only t;
          halts = λ c known falls. occurs t _ (halts inputs accepted c known t early falls);
          finishes = λ c known falls. occurs t _ (finishes inputs accepted c known t early falls);
          frees = λ c known falls. occurs t _ (frees inputs accepted c known t early falls);
          sets = λ c known falls. occurs t _ (sets inputs accepted c known t early falls);
          slots_clear = λ c x known own falls.
              occurs t _ (slots_clear inputs accepted c known t early x own falls);
          slots_set = λ c x known own falls.
              occurs t _ (slots_set inputs accepted c known t early x own falls);
          queue_once = queue-once events (events-apart t);
          slot_once = slot-once events (events-apart t);
        } in
        subst (λ (list : List Event). AreEvents (routed_sessions_of inputs) (t + 1) list)
        (sym (zip-events t (timed_of inputs))) now
