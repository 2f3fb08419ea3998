-- What a cycle keeps of channels: all but how many words were enqueued, have landed and were taken.
use Rattle.std.proofs.Common.{◌≡◌, ◌∙◌, ◌+◌, ℕ, List, [], ◌∷◌, Option, Some, None, fold, length}
use Rattle.std.proofs.Common.{map, refl, sym, ap, inl, inr, slice_get}
use Rattle.std.proofs.Math.Seq.{map-set_same}
use Rattle.std.proofs.lemmas.{Bool.cases_Bool, Option.get_or_from_slice_get, Option.slice_get-map}
use Rattle.std.specs.{List.range_with_len, Option.option_map}
use Rattle.aeth_clocked.specs.declared.flit.Flit.{Flit}
use Rattle.aeth_router.specs.declared.part.Part.{Part}
use Rattle.aeth_components.proofs.CountingLemmas.{counted-closed, counted-open}
use Rattle.aeth_components.proofs.WiringLemmas.{from-map}
use Rattle.aeth_components.proofs.TurnLemmas.{pulled-closed, pulled-open, refilled-closed}
use Rattle.aeth_components.proofs.TurnLemmas.{refilled-open}
use Rattle.aeth_components.specs.{declared.event.Event.Event}
use Rattle.aeth_components.specs.{declared.channel_state.ChannelState.ChannelState, Changes.told_at}
use Rattle.aeth_components.specs.{Components.ComponentsState, Components.ComponentsCycle}
use Rattle.aeth_components.specs.{Components.driven_from, Components.latched_of}
use Rattle.aeth_components.specs.{Components.moment_of, Components.ready_of}
use Rattle.aeth_components.specs.{Components.switched_from, Counting.brings, Counting.counted}
use Rattle.aeth_components.specs.{ChannelStates.is_open, Phases.Moment, Phases.asked_of}
use Rattle.aeth_components.specs.{Phases.left_of, Phases.pulled, Phases.refilled, Phases.turned}
use Rattle.aeth_components.specs.{Phases.turned_at, Queues.dequeues, Queues.fits}

-- A view of a channel that doesn't tell these counts.
abbrev pub IsUncounted : {V : Type 0} → (ChannelState → V) → Type 0
IsUncounted view =
    (channel_state : ChannelState) (enqueued landed taken : ℕ)
    → view (record channel_state { enqueued = enqueued; landed = landed; taken = taken })
    ≡ view channel_state

module _ {V : Type 0} (view : ChannelState → V) where
  -- Where no turn changes the view, turns don't.
  module _ (turn : List Part → ChannelState → List Part × ChannelState)
      (same : (parts : List Part) (channel_state : ChannelState)
      → view (turn parts channel_state).1 ≡ view channel_state) where
    kept-turned : (moment : Moment) (number : ℕ) (found : Option ChannelState)
        → slice_get moment.channel_states number ≡ found
        → map view (turned_at turn moment number found).channel_states
        ≡ map view moment.channel_states
    kept-turned moment number None at = refl
    kept-turned moment number (Some channel_state) at =
        map-set_same view moment.channel_states number (turn moment.parts channel_state).1
        channel_state
        (same moment.parts channel_state
        ∙ ap view (sym
        (get_or_from_slice_get moment.channel_states number channel_state channel_state at)))

    kept-turns : (numbers : List ℕ) (moment : Moment)
        → map view (fold (turned turn) moment numbers).channel_states
        ≡ map view moment.channel_states
    kept-turns [] moment = refl
    kept-turns (number ∷ numbers) moment =
        kept-turns numbers (turned turn moment number)
        ∙ kept-turned moment number (slice_get moment.channel_states number) refl

  module _ (kept : IsUncounted view) where
    kept-refilled : (words : List ℕ) (cycle : ℕ) (parts : List Part) (channel_state : ChannelState)
        → view (refilled words cycle parts channel_state).1 ≡ view channel_state
    kept-refilled words cycle parts channel_state =
        elim (cases_Bool (is_open channel_state cycle)) [
          | inl is ↦
              ap (λ (done : List Part × ChannelState). view done.1)
              (refilled-open words cycle parts channel_state is)
              ∙ kept channel_state
              (channel_state.enqueued
              + told_at channel_state.sender (fits (left_of words channel_state)) parts)
              channel_state.landed channel_state.taken
          | inr not ↦
              ap (λ (done : List Part × ChannelState). view done.1)
              (refilled-closed words cycle parts channel_state not)
        ]

    kept-pulled : (cycle : ℕ) (parts : List Part) (channel_state : ChannelState)
        → view (pulled cycle parts channel_state).1 ≡ view channel_state
    kept-pulled cycle parts channel_state = elim (cases_Bool (is_open channel_state cycle)) [
      | inl is ↦
          ap (λ (done : List Part × ChannelState). view done.1)
          (pulled-open cycle parts channel_state is)
          ∙ kept channel_state channel_state.enqueued channel_state.landed
          (channel_state.taken
          + told_at channel_state.receiver (dequeues (asked_of channel_state)) parts)
      | inr not ↦
          ap (λ (done : List Part × ChannelState). view done.1)
          (pulled-closed cycle parts channel_state not)
    ]

    -- Counting what has landed doesn't.
    pub kept-counted : (cycle : ℕ) (parts : List Part) (channel_states : List ChannelState)
        → map view (map (counted cycle parts) channel_states) ≡ map view channel_states
    kept-counted cycle parts [] = refl
    kept-counted cycle parts (channel_state ∷ channel_states) =
        let one : view (counted cycle parts channel_state) ≡ view channel_state =
        elim (cases_Bool (is_open channel_state cycle)) [
          | inl is ↦
              ap view (counted-open cycle parts channel_state is)
              ∙ kept channel_state channel_state.enqueued
              (channel_state.landed + brings parts channel_state) channel_state.taken
          | inr not ↦ ap view (counted-closed cycle parts channel_state not)
        ] in
        ap (λ (first : V). first ∷ map view (map (counted cycle parts) channel_states)) one
        ∙ ap (λ (others : List V). view channel_state ∷ others)
        (kept-counted cycle parts channel_states)

    -- The channels of a cycle, up to the latch.
    pub kept-latched : (words : List ℕ) (events : List Event) (cycle : ℕ)
        (wires : List (Option Flit)) (moment : Moment)
        → map view (latched_of words events cycle wires moment).channel_states
        ≡ map view moment.channel_states
    kept-latched words events cycle wires moment =
        let driven = driven_from cycle (ready_of words events cycle moment) in
        kept-turns (pulled cycle) (kept-pulled cycle)
        (range_with_len 0 (length driven.channel_states)) driven
        ∙ kept-turns (refilled words cycle) (kept-refilled words cycle)
        (range_with_len 0 (length moment.channel_states)) (switched_from events moment)

    -- And those of the whole cycle.
    pub kept-cycle : (events : List Event) (cycle : ℕ) (old new : ComponentsState)
        → ComponentsCycle events cycle old new
        → map view new.channel_states ≡ map view old.channel_states
    kept-cycle events cycle old new does =
        let latched = latched_of old.words events cycle new.wires (moment_of old) in
        ap (map view) does.channel_states ∙ kept-counted cycle latched.parts latched.channel_states
        ∙ kept-latched old.words events cycle new.wires (moment_of old)

  -- A channel of one list stands in another with the same views.
  pub channel_state-kept : (some others : List ChannelState) → map view some ≡ map view others
      → (number : ℕ)
      (channel_state : ChannelState) → slice_get some number ≡ Some channel_state
      → (other : ChannelState) × (slice_get others number ≡ Some other)
      × (view channel_state ≡ view other)
  channel_state-kept some others same number channel_state at =
      from-map view others number (view channel_state)
      (ap (λ (views : List V). slice_get views number) (sym same)
      ∙ slice_get-map view some number ∙ ap (option_map view) at)
