-- Laws of the turns of channel states.
use Rattle.std.proofs.Common.{ℕ, ◌≡◌, ◌≤◌, ◌+◌, ◌-◌, refl, sym, ◌∙◌, ap, subst, arith, inl, inr}
use Rattle.std.proofs.Common.{true, false, map, drop, List, [], ◌∷◌, ◌++◌, length, fold, Option}
use Rattle.std.proofs.Common.{Some, None, slice_get, take, length-take, append-nil, ap₂}
use Rattle.std.proofs.lemmas.{Bool.cases_Bool, List.Elements.All-set, Option.get_or_from_slice_get}
use Rattle.std.proofs.lemmas.{Option.slice_get_within}
use Rattle.std.specs.{Option.option_map_or, List.All}
use Rattle.aeth_components.specs.declared.channel_state.ChannelEnd.{ChannelEnd}
use Rattle.aeth_components.specs.declared.channel_state.ChannelState.{ChannelState}
use Rattle.aeth_components.specs.Busy.{TakesNothing}
use Rattle.aeth_components.specs.Changes.{at_end, on_interface, told_at, told_by}
use Rattle.aeth_components.specs.Wirings.{wiring_of}
use Rattle.aeth_components.specs.ChannelStates.{IsChannelState, is_open}
use Rattle.aeth_components.specs.Phases.{Moment, asked_of, dequeued_by, enqueued_by, left_of}
use Rattle.aeth_components.specs.Phases.{pulled, refilled, turned, turned_at}
use Rattle.aeth_components.specs.Queues.{dequeued, dequeues, filled, fits}
use Rattle.aeth_components.proofs.{WiringLemmas.wiring_of-changed, PartLemmas.views-with_part}
use Rattle.aeth_components.proofs.{PartLemmas.with_part-same, QueueLemmas.changed-same}
use Rattle.aeth_router.specs.declared.part.Part.{Part}
use Rattle.aeth_router.specs.declared.part.Part.TheVariants.{Interface, Router, Stage, TableRouter}
use Rattle.aeth_ni.specs.{Interface.InterfaceState, Interface.changed, Interface.queue_at}
use Rattle.aeth_ni.specs.{Limits.waiting_words, Queue.QueueState}

module _ (turn : List Part → ChannelState → List Part × ChannelState) where
  -- What each turn keeps of its channel state, all turns keep of all channel states.
  module _ (P : ChannelState → Type 0)
      (kept : (parts : List Part) (channel_state : ChannelState) → P channel_state
      → P (turn parts channel_state).1) where
    All-turned_at : (moment : Moment) (number : ℕ) (found : Option ChannelState)
        → slice_get moment.channel_states number ≡ found → All P moment.channel_states
        → All P (turned_at turn moment number found).channel_states
    All-turned_at moment number None at all = all
    All-turned_at moment number (Some channel_state) at all =
        All-set P moment.channel_states number (turn moment.parts channel_state).1
        (kept moment.parts channel_state (subst P
        (get_or_from_slice_get moment.channel_states number channel_state channel_state at)
        (all number channel_state
        (slice_get_within moment.channel_states number channel_state at))))
        all

    pub All-turns : (numbers : List ℕ) (moment : Moment) → All P moment.channel_states
        → All P (fold (turned turn) moment numbers).channel_states
    All-turns [] moment all = all
    All-turns (number ∷ numbers) moment all =
        All-turns numbers (turned turn moment number)
        (All-turned_at moment number (slice_get moment.channel_states number) refl all)

  -- What each turn keeps of the components, all turns keep.
  module _ {X : Type 0} (view : Part → X) (kept : (parts : List Part) (channel_state : ChannelState)
      → map view (turn parts channel_state).0 ≡ map view parts) where
    views-turned_at : (moment : Moment) (number : ℕ) (found : Option ChannelState)
        → map view (turned_at turn moment number found).parts ≡ map view moment.parts
    views-turned_at moment number None = refl
    views-turned_at moment number (Some channel_state) = kept moment.parts channel_state

    pub views-turns : (numbers : List ℕ) (moment : Moment)
        → map view (fold (turned turn) moment numbers).parts ≡ map view moment.parts
    views-turns [] moment = refl
    views-turns (number ∷ numbers) moment =
        views-turns numbers (turned turn moment number)
        ∙ views-turned_at moment number (slice_get moment.channel_states number)

  -- So it is with wirings.
  pub wirings-turns : ((parts : List Part) (channel_state : ChannelState)
      → map wiring_of (turn parts channel_state).0 ≡ map wiring_of parts)
      → (numbers : List ℕ) (moment : Moment)
      → map wiring_of (fold (turned turn) moment numbers).parts ≡ map wiring_of moment.parts
  wirings-turns = views-turns wiring_of

-- A channel whose turn comes while it is open, or not.
pub refilled-open : (words : List ℕ) (cycle : ℕ) (parts : List Part) (channel_state : ChannelState)
    → is_open channel_state cycle ≡ true
    → refilled words cycle parts channel_state
    ≡ enqueued_by (left_of words channel_state) parts channel_state
refilled-open words cycle parts channel_state opened = rw opened refl

pub pulled-open : (cycle : ℕ) (parts : List Part) (channel_state : ChannelState)
    → is_open channel_state cycle ≡ true
    → pulled cycle parts channel_state ≡ dequeued_by parts channel_state
pulled-open cycle parts channel_state opened = rw opened refl

pub refilled-closed : (words : List ℕ) (cycle : ℕ) (parts : List Part)
    (channel_state : ChannelState)
    → is_open channel_state cycle ≡ false
    → refilled words cycle parts channel_state ≡ (parts, channel_state)
refilled-closed words cycle parts channel_state closed = rw closed refl

pub pulled-closed : (cycle : ℕ) (parts : List Part) (channel_state : ChannelState)
    → is_open channel_state cycle ≡ false
    → pulled cycle parts channel_state ≡ (parts, channel_state)
pulled-closed cycle parts channel_state closed = rw closed refl

on_interface-same : (queue : ℕ) (change : QueueState → QueueState) (part : Part)
    → ((ni : InterfaceState) → part ≡ Interface ni
    → change (queue_at ni.queues queue) ≡ queue_at ni.queues queue)
    → on_interface (changed queue change) part ≡ part
on_interface-same queue change (Interface ni) same =
    ap (λ (ni : InterfaceState). Interface ni) (changed-same queue change ni (same ni refl))
on_interface-same queue change (Router router) same = refl
on_interface-same queue change (TableRouter router) same = refl
on_interface-same queue change (Stage stage) same = refl

-- So does one that changes nothing of the queue there.
at_end-same : (end : ChannelEnd) (change : QueueState → QueueState) (parts : List Part)
    → ((ni : InterfaceState) → slice_get parts end.ni.0 ≡ Some (Interface ni)
    → change (queue_at ni.queues end.queue) ≡ queue_at ni.queues end.queue)
    → at_end end change parts ≡ parts
at_end-same end change parts same =
    with_part-same end.ni.0 (on_interface (changed end.queue change)) parts
    (λ part at. on_interface-same end.queue change part
    (λ ni is. same ni (at ∙ ap (λ (part : Part). Some part) is)))

-- What is told of a component is bounded where each queue tells so much at most.
told_by-le : (queue most : ℕ) (tells : QueueState → ℕ)
    → ((state : QueueState) → tells state ≤ most) → (part : Part) → told_by queue tells part ≤ most
told_by-le queue most tells within (Interface ni) = within (queue_at ni.queues queue)
told_by-le queue most tells within (Router router) = omega arith
told_by-le queue most tells within (TableRouter router) = omega arith
told_by-le queue most tells within (Stage stage) = omega arith

map_or-le : (most : ℕ) (tells : Part → ℕ) → ((part : Part) → tells part ≤ most)
    → (found : Option Part) → option_map_or tells found 0 ≤ most
map_or-le most tells within None = omega arith
map_or-le most tells within (Some part) = within part

pub told_at-le : (end : ChannelEnd) (most : ℕ) (tells : QueueState → ℕ)
    → ((state : QueueState) → tells state ≤ most) → (parts : List Part)
    → told_at end tells parts ≤ most
told_at-le end most tells within parts =
    map_or-le most (told_by end.queue tells) (told_by-le end.queue most tells within)
    (slice_get parts end.ni.0)

-- No more words fit than there are.
pub fits-le : (words : List ℕ) (queue : QueueState) → fits words queue ≤ length words
fits-le words queue =
    let size = length-take (waiting_words - length queue.waiting) words in omega arith

-- Where no word fits, none is enqueued.
empty-none : {X : Type 0} (xs : List X) → length xs ≡ 0 → xs ≡ []
empty-none [] none = refl
empty-none (x ∷ xs) none = absurd (omega (arith, none))

filled-none : (words : List ℕ) (queue : QueueState) → fits words queue ≡ 0
    → filled words queue ≡ queue
filled-none words queue none =
    ap (λ (words : List ℕ). record queue { waiting = queue.waiting ++ words })
    (empty-none (take (waiting_words - length queue.waiting) words) none)
    ∙ ap (λ (words : List ℕ). record queue { waiting = words }) (append-nil queue.waiting)

pub enqueued_by-none : (left : List ℕ) (parts : List Part) (channel_state : ChannelState)
    → told_at channel_state.sender (fits left) parts ≡ 0
    → enqueued_by left parts channel_state ≡ (parts, channel_state)
enqueued_by-none left parts channel_state none =
    let same : channel_state.enqueued + told_at channel_state.sender (fits left) parts
    ≡ channel_state.enqueued =
    omega (arith, none) in
    ap₂ (λ (parts : List Part) (n : ℕ). (parts, record channel_state { enqueued = n }))
    (at_end-same channel_state.sender (filled left) parts
    (λ ni at. filled-none left (queue_at ni.queues channel_state.sender.queue)
    (sym (ap (λ (found : Option Part). option_map_or
    (told_by channel_state.sender.queue (fits left)) found 0)
    at) ∙ none)))
    same

pub refilled-none : (words : List ℕ) (cycle : ℕ) (parts : List Part) (channel_state : ChannelState)
    → channel_state.accepted ≤ channel_state.enqueued
    → refilled words cycle parts channel_state ≡ (parts, channel_state)
refilled-none words cycle parts channel_state none =
    elim (cases_Bool (is_open channel_state cycle)) [
      | inl opened ↦
          let nothing : channel_state.first + channel_state.accepted
          - (channel_state.first + channel_state.enqueued) ≡ 0 = omega arith in
          let left = left_of words channel_state in
          let few = length-take
          (channel_state.first + channel_state.accepted
          - (channel_state.first + channel_state.enqueued))
          (drop (channel_state.first + channel_state.enqueued) words) in
          let told = told_at-le channel_state.sender (length left) (fits left) (fits-le left) parts
          in
          refilled-open words cycle parts channel_state opened
          ∙ enqueued_by-none left parts channel_state (omega (arith, nothing, few, told))
      | inr closed ↦ refilled-closed words cycle parts channel_state closed
    ]

-- Where no word is there to be taken, none is.
pub dequeued_by-none : (parts : List Part) (channel_state : ChannelState)
    → asked_of channel_state ≡ 0
    → dequeued_by parts channel_state ≡ (parts, channel_state)
dequeued_by-none parts channel_state none =
    let told = told_at-le channel_state.receiver 0 (dequeues (asked_of channel_state))
    (λ state. rw none (omega arith)) parts in
    let same : channel_state.taken
    + told_at channel_state.receiver (dequeues (asked_of channel_state)) parts
    ≡ channel_state.taken =
    omega arith in
    ap₂ (λ (parts : List Part) (n : ℕ). (parts, record channel_state { taken = n }))
    (at_end-same channel_state.receiver (dequeued (asked_of channel_state)) parts
    (λ ni at. rw none refl)) same

asked_of-none : (channel_state : ChannelState) → TakesNothing channel_state
    → asked_of channel_state ≡ 0
asked_of-none channel_state none = elim none [
  | inl taken ↦ omega arith
  | inr never ↦ omega arith
]

pub pulled-none : (cycle : ℕ) (parts : List Part) (channel_state : ChannelState)
    → TakesNothing channel_state
    → pulled cycle parts channel_state ≡ (parts, channel_state)
pulled-none cycle parts channel_state none =
    elim (cases_Bool (is_open channel_state cycle)) [
      | inl opened ↦
          pulled-open cycle parts channel_state opened
          ∙ dequeued_by-none parts channel_state (asked_of-none channel_state none)
      | inr closed ↦ pulled-closed cycle parts channel_state closed
    ]

-- Refilling keeps which receivers take nothing.
pub TakesNothing-refilled : (words : List ℕ) (cycle : ℕ) (parts : List Part)
    (channel_state : ChannelState)
    → TakesNothing channel_state → TakesNothing (refilled words cycle parts channel_state).1
TakesNothing-refilled words cycle parts channel_state none =
    elim (cases_Bool (is_open channel_state cycle)) [
      | inl opened ↦
          subst (λ (done : List Part × ChannelState). TakesNothing done.1)
          (sym (refilled-open words cycle parts channel_state opened)) none
      | inr closed ↦
          subst (λ (done : List Part × ChannelState). TakesNothing done.1)
          (sym (refilled-closed words cycle parts channel_state closed)) none
    ]

-- A turn keeps the wirings.
wiring_of-on_interface : (queue : ℕ) (change : QueueState → QueueState) (part : Part)
    → wiring_of (on_interface (changed queue change) part) ≡ wiring_of part
wiring_of-on_interface queue change (Interface ni) = wiring_of-changed queue change ni
wiring_of-on_interface queue change (Router router) = refl
wiring_of-on_interface queue change (TableRouter router) = refl
wiring_of-on_interface queue change (Stage stage) = refl

-- What changes of queues keep of the components, refilling and taking keep.
module _ {X : Type 0} (view : Part → X) (kept : (queue : ℕ) (change : QueueState → QueueState)
    (part : Part) → view (on_interface (changed queue change) part) ≡ view part) where
  views-at_end : (end : ChannelEnd) (change : QueueState → QueueState) (parts : List Part)
      → map view (at_end end change parts) ≡ map view parts
  views-at_end end change parts =
      views-with_part view end.ni.0 (on_interface (changed end.queue change))
      (kept end.queue change) parts

  pub views-refilled : (words : List ℕ) (cycle : ℕ) (parts : List Part)
      (channel_state : ChannelState)
      → map view (refilled words cycle parts channel_state).0 ≡ map view parts
  views-refilled words cycle parts channel_state =
      elim (cases_Bool (is_open channel_state cycle)) [
        | inl opened ↦
            rw opened (views-at_end channel_state.sender (filled (left_of words channel_state))
            parts)
        | inr closed ↦ rw closed refl
      ]

  pub views-pulled : (cycle : ℕ) (parts : List Part) (channel_state : ChannelState)
      → map view (pulled cycle parts channel_state).0 ≡ map view parts
  views-pulled cycle parts channel_state =
      elim (cases_Bool (is_open channel_state cycle)) [
        | inl opened ↦
            rw opened (views-at_end channel_state.receiver (dequeued (asked_of channel_state))
            parts)
        | inr closed ↦ rw closed refl
      ]

-- So it is with wirings.
pub wirings-refilled : (words : List ℕ) (cycle : ℕ) (parts : List Part)
    (channel_state : ChannelState)
    → map wiring_of (refilled words cycle parts channel_state).0 ≡ map wiring_of parts
wirings-refilled = views-refilled wiring_of wiring_of-on_interface

pub wirings-pulled : (cycle : ℕ) (parts : List Part) (channel_state : ChannelState)
    → map wiring_of (pulled cycle parts channel_state).0 ≡ map wiring_of parts
wirings-pulled = views-pulled wiring_of wiring_of-on_interface

-- A turn keeps what holds of a channel.
pub IsChannelState-refilled : (words : List ℕ) (cycle count : ℕ) (parts : List Part)
    (channel_state : ChannelState)
    → IsChannelState (length words) count channel_state
    → IsChannelState (length words) count (refilled words cycle parts channel_state).1
IsChannelState-refilled words cycle count parts channel_state sound =
    elim (cases_Bool (is_open channel_state cycle)) [
      | inl opened ↦ rw opened (
          let left = left_of words channel_state in
          let few : length left ≤ channel_state.accepted - channel_state.enqueued =
          let first = length-take
          (channel_state.first + channel_state.accepted
          - (channel_state.first + channel_state.enqueued))
          (drop (channel_state.first + channel_state.enqueued) words) in
          omega arith in
          let told = told_at-le channel_state.sender (length left) (fits left) (fits-le left) parts
          in
          let enqueued = sound.enqueued in
          let landed = sound.landed in
          record {
            sender = sound.sender;
            receiver = sound.receiver;
            taken = sound.taken;
            landed = omega arith;
            enqueued = omega arith;
            within = sound.within;
          })
      | inr closed ↦ rw closed sound
    ]

pub IsChannelState-pulled : (words cycle count : ℕ) (parts : List Part)
    (channel_state : ChannelState)
    → IsChannelState words count channel_state
    → IsChannelState words count (pulled cycle parts channel_state).1
IsChannelState-pulled words cycle count parts channel_state sound =
    elim (cases_Bool (is_open channel_state cycle)) [
      | inl opened ↦ rw opened (
          let told = told_at-le channel_state.receiver (asked_of channel_state)
          (dequeues (asked_of channel_state))
          (λ state. omega arith) parts in
          let taken = sound.taken in
          record {
            sender = sound.sender;
            receiver = sound.receiver;
            taken = omega arith;
            landed = sound.landed;
            enqueued = sound.enqueued;
            within = sound.within;
          })
      | inr closed ↦ rw closed sound
    ]
