-- Laws of the channels that enqueue words, and of those that wait for room.
use Rattle.std.proofs.Common.{ℕ, ◌≡◌, ◌≢◌, ◌<◌, ◌∙◌, refl, sym, ap, ap₂, subst, arith, inl, inr}
use Rattle.std.proofs.Common.{true, map, List, [], ◌∷◌, length, set, Option, Some, None, fold}
use Rattle.std.proofs.Common.{slice_get, ◌⊎◌, length-set}
use Rattle.std.proofs.Math.Seq.{map-set_same}
use Rattle.std.proofs.lemmas.{Bool.cases_Bool, Bool.cases_eq, Bool.cases_lt, List.length-map}
use Rattle.std.proofs.lemmas.{Option.get_or_from_slice_get, Option.same_Some, Option.slice_get-map}
use Rattle.std.proofs.lemmas.{Option.slice_get_within}
use Rattle.std.specs.{List.All, List.range_with_len, Option.option_map}
use Rattle.aeth_base.proofs.Lists.{map-slice_get, slice_get-slice_set_other}
use Rattle.aeth_base.proofs.Lists.{slice_get-slice_set_same}
use Rattle.aeth_base.specs.Marks.{bit_of, room_of}
use Rattle.aeth_clocked.specs.declared.flit.Flit.{Flit}
use Rattle.aeth_router.specs.declared.part.Part.{Part}
use Rattle.aeth_components.specs.{declared.channel_state.ChannelEnd.ChannelEnd}
use Rattle.aeth_components.specs.{declared.channel_state.ChannelState.ChannelState}
use Rattle.aeth_components.specs.{declared.enqueuing.Enqueuing.Enqueuing, Busy.EnqueuesNothing}
use Rattle.aeth_components.specs.{Counting.counted, ChannelStates.is_open, Phases.Moment}
use Rattle.aeth_components.specs.{Phases.in_turn, Phases.pulled, Phases.refilled, Phases.turned}
use Rattle.aeth_components.specs.{Phases.turned_at, Enqueuing.AreEnqueuing, Enqueuing.IsFull}
use Rattle.aeth_components.specs.{Enqueuing.IsResting, Enqueuing.IsWaiting, Enqueuing.MarksIdle}
use Rattle.aeth_components.specs.{Enqueuing.MarksActive, Seen.flits_landed}
use Rattle.aeth_components.proofs.{FullLemmas.IsFull-refilled, RoomLemmas.IsFull-landed}

-- The channels stay so where interfaces with room mark theirs active, and all other queues stay
-- full.
pub AreEnqueuing-marked_active : (Is : ℕ → Type 0) (parts now : List Part)
    (channel_states : List ChannelState)
    (old new : Enqueuing) → MarksActive Is old new
    → ((end : ChannelEnd) → (Is end.ni.0 → ⊥) → IsFull parts end → IsFull now end)
    → AreEnqueuing parts channel_states old → AreEnqueuing now channel_states new
AreEnqueuing-marked_active Is parts now channel_states old new marks_active stays are = record {
  room = (let room = are.room in let same = marks_active.room in omega (arith, room, same));
  places = marks_active.places;
  rests = λ number channel_state at unmarked. elim
      (are.rests number channel_state at (marks_active.marked number unmarked)) [
        | inl none ↦ inl none
        | inr (full, waits) ↦
            inr (
              stays channel_state.sender
                  (marks_active.others number channel_state.sender unmarked waits) full,
              marks_active.kept number channel_state.sender unmarked waits,
            )
      ];
}

-- What enqueues of a channel: what landings and taking leave alone.
abbrev sent_of : ChannelState → ChannelState
sent_of channel_state = record channel_state { landed = 0; taken = 0 }

-- And where the channels are as they were but for what has landed and was taken, and no queue that is
-- full gets room.
AreEnqueuing-sent : (parts now : List Part) (channel_states others : List ChannelState)
    (enqueuing : Enqueuing)
    → map sent_of others ≡ map sent_of channel_states
    → ((end : ChannelEnd) → IsFull parts end → IsFull now end)
    → AreEnqueuing parts channel_states enqueuing → AreEnqueuing now others enqueuing
AreEnqueuing-sent parts now channel_states others enqueuing same stays are = record {
  room = (
      let room = are.room in
      let size = ap length same in
      let old = length-map channel_states sent_of in
      let new = length-map others sent_of in
      omega (arith, room, size, old, new));
  places = are.places;
  rests = λ number channel_state at unmarked.
      let view = map-slice_get sent_of channel_states number (sent_of channel_state)
      (ap (λ (list : List ChannelState). slice_get list number) (sym same)
      ∙ slice_get-map sent_of others number ∙ ap (option_map sent_of) at) in
      let before = view.0 in
      elim (are.rests number before view.1 unmarked) [
        | inl none ↦
            inl (
            let accepted = ap (λ (channel_state : ChannelState). channel_state.accepted) view.2 in
            let enqueued = ap (λ (channel_state : ChannelState). channel_state.enqueued) view.2 in
            omega (arith, none, accepted, enqueued))
        | inr (full, waits) ↦
            inr (subst (λ (end : ChannelEnd). (IsFull now end) × (IsWaiting enqueuing number end))
            (ap (λ (channel_state : ChannelState). channel_state.sender) view.2)
            (stays before.sender full, waits))
      ];
}

pub AreEnqueuing-kept : (parts now : List Part) (channel_states : List ChannelState)
    (enqueuing : Enqueuing)
    → ((end : ChannelEnd) → IsFull parts end → IsFull now end)
    → AreEnqueuing parts channel_states enqueuing → AreEnqueuing now channel_states enqueuing
AreEnqueuing-kept parts now channel_states enqueuing =
    AreEnqueuing-sent parts now channel_states channel_states enqueuing refl

-- Taking changes nothing that is enqueued.
sent-pulled : (cycle : ℕ) (parts : List Part) (channel_state : ChannelState)
    → sent_of (pulled cycle parts channel_state).1 ≡ sent_of channel_state
sent-pulled cycle parts channel_state = elim (cases_Bool (is_open channel_state cycle)) [
  | inl opened ↦ rw opened refl
  | inr closed ↦ rw closed refl
]

sent-turned : (cycle : ℕ) (moment : Moment) (number : ℕ) (found : Option ChannelState)
    → slice_get moment.channel_states number ≡ found
    → map sent_of (turned_at (pulled cycle) moment number found).channel_states
    ≡ map sent_of moment.channel_states
sent-turned cycle moment number None at = refl
sent-turned cycle moment number (Some channel_state) at =
    map-set_same sent_of moment.channel_states number (pulled cycle moment.parts channel_state).1
    channel_state
    (sent-pulled cycle moment.parts channel_state
    ∙ ap sent_of
    (sym (get_or_from_slice_get moment.channel_states number channel_state channel_state at)))

sent-turns : (cycle : ℕ) (numbers : List ℕ) (moment : Moment)
    → map sent_of (fold (turned (pulled cycle)) moment numbers).channel_states
    ≡ map sent_of moment.channel_states
sent-turns cycle [] moment = refl
sent-turns cycle (number ∷ numbers) moment =
    sent-turns cycle numbers (turned (pulled cycle) moment number)
    ∙ sent-turned cycle moment number (slice_get moment.channel_states number) refl

pub AreEnqueuing-taken : (cycle : ℕ) (moment : Moment) (now : List Part) (enqueuing : Enqueuing)
    → ((end : ChannelEnd) → IsFull moment.parts end → IsFull now end)
    → AreEnqueuing moment.parts moment.channel_states enqueuing
    → AreEnqueuing now (in_turn (pulled cycle) moment).channel_states enqueuing
AreEnqueuing-taken cycle moment now enqueuing =
    AreEnqueuing-sent moment.parts now moment.channel_states
    (in_turn (pulled cycle) moment).channel_states enqueuing
    (sent-turns cycle (range_with_len 0 (length moment.channel_states)) moment)

-- Nor does counting.
sent-count : (cycle : ℕ) (parts : List Part) (channel_state : ChannelState)
    → sent_of (counted cycle parts channel_state) ≡ sent_of channel_state
sent-count cycle parts channel_state = elim (cases_Bool (is_open channel_state cycle)) [
  | inl opened ↦ rw opened refl
  | inr closed ↦ rw closed refl
]

sent-counted : (cycle : ℕ) (parts : List Part) (channel_states : List ChannelState)
    → map sent_of (map (counted cycle parts) channel_states) ≡ map sent_of channel_states
sent-counted cycle parts [] = refl
sent-counted cycle parts (channel_state ∷ channel_states) =
    ap₂ (λ (channel_state : ChannelState) (channel_states : List ChannelState). channel_state
    ∷ channel_states)
    (sent-count cycle parts channel_state) (sent-counted cycle parts channel_states)

-- So the channels stay so where flits land.
pub AreEnqueuing-landed : (cycle : ℕ) (wires : List (Option Flit)) (parts brought : List Part)
    (channel_states : List ChannelState) (enqueuing : Enqueuing)
    → AreEnqueuing parts channel_states enqueuing
    → AreEnqueuing (flits_landed wires parts) (map (counted cycle brought) channel_states) enqueuing
AreEnqueuing-landed cycle wires parts brought channel_states enqueuing =
    AreEnqueuing-sent parts (flits_landed wires parts) channel_states
    (map (counted cycle brought) channel_states) enqueuing
    (sent-counted cycle brought channel_states) (IsFull-landed wires parts)

-- A channel that isn't marked behind its turn enqueues nothing.
own-rests : (cycle : ℕ) (now : List Part) (channel_state : ChannelState) (settled : Enqueuing)
    (number : ℕ)
    → (is_open channel_state cycle ≡ true → channel_state.enqueued < channel_state.accepted
    → IsFull now channel_state.sender)
    → (EnqueuesNothing channel_state)
    ⊎ ((is_open channel_state cycle ≡ true) × (IsWaiting settled number channel_state.sender))
    → IsResting now settled number channel_state
own-rests cycle now channel_state settled number full marks_idle = elim marks_idle [
  | inl none ↦ inl none
  | inr (opened, waits) ↦ elim (cases_lt channel_state.enqueued channel_state.accepted) [
    | inl left ↦ inr (full opened left, waits)
    | inr none ↦ inl (omega (arith, none))
  ]
]

-- One channel has had its turn.
pub AreEnqueuing-settled : (words : List ℕ) (cycle : ℕ) (parts now : List Part)
    (channel_states : List ChannelState)
    (number : ℕ) (channel_state new : ChannelState) (enqueuing settled : Enqueuing)
    → slice_get channel_states number ≡ Some channel_state
    → (now, new) ≡ refilled words cycle parts channel_state
    → (is_open new cycle ≡ true → new.enqueued < new.accepted → IsFull now new.sender)
    → MarksIdle cycle new number enqueuing settled
    → AreEnqueuing parts channel_states enqueuing
    → AreEnqueuing now (set channel_states number new) settled
AreEnqueuing-settled words cycle parts now channel_states number channel_state new enqueuing settled
    there did full marks_idle are =
    record {
      room = (
          let room = are.room in
          let same = marks_idle.room in
          let size = length-set channel_states number new in
          omega (arith, room, same, size));
      places = marks_idle.places;
      rests = λ other found at unmarked. elim (cases_eq other number) [
        | inl own ↦
            let is : new ≡ found =
            same_Some new found (sym (slice_get-slice_set_same channel_states number new
            (slice_get_within channel_states number channel_state there))
            ∙ ap (slice_get (set channel_states number new)) (sym own) ∙ at) in
            subst (λ (n : ℕ). IsResting now settled n found) (sym own)
            (subst (IsResting now settled number) is
            (own-rests cycle now new settled number full
            (marks_idle.own (ap (bit_of settled.marks) (sym own) ∙ unmarked))))
        | inr apart ↦
            elim (are.rests other found
            (sym (slice_get-slice_set_other channel_states number other new apart) ∙ at)
            (sym (marks_idle.away other apart) ∙ unmarked)) [
              | inl none ↦ inl none
              | inr (rest, waits) ↦
                  inr (
                    subst (λ (done : List Part × ChannelState). IsFull done.0 found.sender)
                        (sym did)
                        (IsFull-refilled words cycle parts channel_state found.sender rest),
                    marks_idle.kept other found.sender waits,
                  )
            ]
      ];
    }

-- A channel that is marked may be any.
pub AreEnqueuing-marked : (parts : List Part) (channel_states : List ChannelState) (number : ℕ)
    (channel_state : ChannelState)
    (old : Enqueuing) (enqueuing : List ℕ) → room_of enqueuing ≡ room_of old.marks
    → bit_of enqueuing number ≡ 1
    → ((other : ℕ) → other ≢ number → bit_of enqueuing other ≡ bit_of old.marks other)
    → AreEnqueuing parts channel_states old
    → AreEnqueuing parts (set channel_states number channel_state)
    (record old { marks = enqueuing })
AreEnqueuing-marked parts channel_states number channel_state old enqueuing room here away are =
    record {
      room = (
          let before = are.room in
          let size = length-set channel_states number channel_state in
          omega (arith, before, room, size));
      places = record {
        waiting = are.places.waiting;
        size = are.places.size;
        within = subst (λ n. All (λ number. number < n) old.numbers.items) (sym room) are.places.within;
      };
      rests = λ other found at unmarked. elim (cases_eq other number) [
        | inl own ↦
            absurd (let no = sym (ap (bit_of enqueuing) own) ∙ unmarked in omega (arith, no, here))
        | inr apart ↦
            elim (are.rests other found
            (sym (slice_get-slice_set_other channel_states number other channel_state apart) ∙ at)
            (sym (away other apart) ∙ unmarked)) [
              | inl none ↦ inl none
              | inr (full, waits) ↦ inr (full, record { marked = waits.marked; at = waits.at })
            ]
      ];
    }
