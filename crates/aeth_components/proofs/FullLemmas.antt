-- Laws of source queues that words are put into: a full one stays full, and its channel is left alone.
use Rattle.std.proofs.Common.{ℕ, zero, suc, ◌≡◌, ◌≤◌, ◌-◌, ◌∙◌, arith, inl, inr, List, [], ◌∷◌}
use Rattle.std.proofs.Common.{Option, Some, None, get_or, length, set, slice_get, take}
use Rattle.std.proofs.Common.{length-append, length-take}
use Rattle.std.proofs.lemmas.Bool.{cases_Bool}
use Rattle.std.specs.Option.{option_map_or}
use Rattle.aeth_ni.specs.{Interface.changed, Interface.queue_at, Limits.waiting_words}
use Rattle.aeth_ni.specs.{Queue.QueueState, Queue.empty_queue}
use Rattle.aeth_router.specs.declared.part.Part.{Part}
use Rattle.aeth_router.specs.declared.part.Part.TheVariants.{Interface, Router, Stage, TableRouter}
use Rattle.aeth_components.specs.{declared.channel_state.ChannelEnd.ChannelEnd}
use Rattle.aeth_components.specs.{declared.channel_state.ChannelState.ChannelState}
use Rattle.aeth_components.specs.{declared.enqueuing.Enqueuing.Enqueuing, Changes.on_interface}
use Rattle.aeth_components.specs.{Changes.told_by, Changes.with_part, ChannelStates.is_open}
use Rattle.aeth_components.specs.{Phases.left_of, Phases.refilled, Queues.filled, Queues.fits}
use Rattle.aeth_components.specs.{Enqueuing.IsFull, Enqueuing.IsResting, Enqueuing.room_left}
use Rattle.aeth_components.proofs.TurnLemmas.{enqueued_by-none, refilled-closed, refilled-none}
use Rattle.aeth_components.proofs.TurnLemmas.{refilled-open}

-- Where words are put into one queue, there is no more room in any.
room-filled : (words : List ℕ) (queue : QueueState) → room_left (filled words queue) ≤ room_left queue
room-filled words queue =
    let size = length-append queue.waiting (take (waiting_words - length queue.waiting) words) in
    omega (arith, size)

room-set : (words : List ℕ) (queues : List QueueState) (number other : ℕ) (d : QueueState)
    → room_left (get_or (set queues number (filled words (get_or queues number d))) other d)
    ≤ room_left (get_or queues other d)
room-set words [] number other d = omega arith
room-set words (queue ∷ queues) zero zero d = room-filled words queue
room-set words (queue ∷ queues) zero (suc other) d = omega arith
room-set words (queue ∷ queues) (suc number) zero d = omega arith
room-set words (queue ∷ queues) (suc number) (suc other) d = room-set words queues number other d

room-part : (words : List ℕ) (number other : ℕ) (part : Part)
    → told_by other room_left (on_interface (changed number (filled words)) part)
    ≤ told_by other room_left part
room-part words number other (Interface ni) = room-set words ni.queues number other (empty_queue 0)
room-part words number other (Router router) = omega arith
room-part words number other (TableRouter router) = omega arith
room-part words number other (Stage stage) = omega arith

room-parts : (words : List ℕ) (parts : List Part) (number other queue too : ℕ)
    → option_map_or (told_by too room_left)
    (slice_get (with_part number (on_interface (changed queue (filled words))) parts) other) 0
    ≤ option_map_or (told_by too room_left) (slice_get parts other) 0
room-parts words [] number other queue too = omega arith
room-parts words (part ∷ parts) zero zero queue too = room-part words queue too part
room-parts words (part ∷ parts) zero (suc other) queue too = omega arith
room-parts words (part ∷ parts) (suc number) zero queue too = omega arith
room-parts words (part ∷ parts) (suc number) (suc other) queue too =
    room-parts words parts number other queue too

pub IsFull-refilled : (words : List ℕ) (cycle : ℕ) (parts : List Part)
    (channel_state : ChannelState) (end : ChannelEnd)
    → IsFull parts end → IsFull (refilled words cycle parts channel_state).0 end
IsFull-refilled words cycle parts channel_state end full =
    elim (cases_Bool (is_open channel_state cycle)) [
      | inl opened ↦
          rw opened (
          let less = room-parts (left_of words channel_state) parts channel_state.sender.ni.0 end.ni.0
          channel_state.sender.queue
          end.queue in
          omega (arith, less, full))
      | inr closed ↦ rw closed full
    ]

-- No more words fit than there is room for.
fits-room : (words : List ℕ) (queue : QueueState) → fits words queue ≤ room_left queue
fits-room words queue =
    let size = length-take (waiting_words - length queue.waiting) words in omega arith

told-room : (words : List ℕ) (queue : ℕ) (part : Part)
    → told_by queue (fits words) part ≤ told_by queue room_left part
told-room words queue (Interface ni) = fits-room words (queue_at ni.queues queue)
told-room words queue (Router router) = omega arith
told-room words queue (TableRouter router) = omega arith
told-room words queue (Stage stage) = omega arith

found-room : (words : List ℕ) (queue : ℕ) (found : Option Part)
    → option_map_or (told_by queue (fits words)) found 0
    ≤ option_map_or (told_by queue room_left) found 0
found-room words queue None = omega arith
found-room words queue (Some part) = told-room words queue part

-- A channel whose source queue is full is left alone.
pub refilled-rests : (words : List ℕ) (cycle : ℕ) (parts : List Part) (enqueuing : Enqueuing)
    (number : ℕ) (channel_state : ChannelState) → IsResting parts enqueuing number channel_state
    → refilled words cycle parts channel_state ≡ (parts, channel_state)
refilled-rests words cycle parts enqueuing number channel_state rests = elim rests [
  | inl none ↦ refilled-none words cycle parts channel_state none
  | inr (full, waits) ↦ elim (cases_Bool (is_open channel_state cycle)) [
    | inl opened ↦
        refilled-open words cycle parts channel_state opened
        ∙ enqueued_by-none (left_of words channel_state) parts channel_state (
        let told = found-room (left_of words channel_state) channel_state.sender.queue
        (slice_get parts channel_state.sender.ni.0) in
        omega (arith, told, full))
    | inr closed ↦ refilled-closed words cycle parts channel_state closed
  ]
]
