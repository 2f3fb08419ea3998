-- Which channels enqueue words, and which of them wait for room in their source queues.
--
-- Of those that wait a cycle looks at those whose interface sends or has an event. Where two
-- channels wait at one queue, which seats and queue numbers rule out, the second stays marked as
-- one that enqueues words.
--
--   room_left, IsFull                the room in a source queue
--   HasWaitingPlaces, IsWaiting      that there are marks, and the channel that waits at a place
--   IsResting, AreEnqueuing          what is marked of the channels of a network
--   MarksIdle, MarksActive           what a turn makes of it, and what interfaces with room do
--   HasEvent                         an event is for an interface
--
-- This project's own.
use Rattle.std.proofs.Common.{◌≡◌, ◌≢◌, ◌<◌, ◌-◌, ◌==◌, ◌⊎◌, ℕ, All, List, Some, length, slice_get}
use Rattle.std.proofs.Common.{true}
use Rattle.std.specs.List.{list_any}
use Rattle.aeth_base.specs.Marks.{bit_of, room_of}
use Rattle.aeth_ni.specs.{Limits.waiting_words, Queue.QueueState}
use Rattle.aeth_router.specs.declared.part.Part.{Part}
use Rattle.aeth_components.specs.{Busy.EnqueuesNothing, Changes.told_at, Events.event_part}
use Rattle.aeth_components.specs.{Homes.home_at, Homes.home_count, ChannelStates.is_open}
use Rattle.aeth_components.specs.{declared.event.Event.Event}
use Rattle.aeth_components.specs.{declared.channel_state.ChannelEnd.ChannelEnd}
use Rattle.aeth_components.specs.{declared.channel_state.ChannelState.ChannelState}
use Rattle.aeth_components.specs.{declared.enqueuing.Enqueuing.Enqueuing}

-- How many words more may wait in a source queue.
abbrev pub room_left : QueueState → ℕ
room_left queue = waiting_words - length queue.waiting

-- No word more may wait in the source queue of an end.
abbrev pub IsFull : List Part → ChannelEnd → Type 0
IsFull parts end = told_at end room_left parts ≡ 0

-- There is a mark for each place, and for each channel that is noted at one.
pub record HasWaitingPlaces (enqueuing : Enqueuing) : Type 0 where
  pub waiting : home_count < room_of enqueuing.waiting
  pub size : length enqueuing.numbers.items ≡ home_count
  pub within : All (λ number. number < room_of enqueuing.marks) enqueuing.numbers.items

-- A channel waits at the place of its source queue.
pub record IsWaiting (enqueuing : Enqueuing) (number : ℕ) (end : ChannelEnd) : Type 0 where
  pub marked : bit_of enqueuing.waiting (home_at end.ni.0 end.queue) ≡ 1
  pub at : slice_get enqueuing.numbers.items (home_at end.ni.0 end.queue) ≡ Some number

-- A channel enqueues nothing: all that is accepted was enqueued, or its source queue is full and it
-- waits there.
abbrev pub IsResting : List Part → Enqueuing → ℕ → ChannelState → Type 0
IsResting parts enqueuing number channel_state =
    (EnqueuesNothing channel_state)
    ⊎ ((IsFull parts channel_state.sender) × (IsWaiting enqueuing number channel_state.sender))

-- Each channel that isn't marked enqueues nothing.
pub record AreEnqueuing (parts : List Part) (channel_states : List ChannelState)
    (enqueuing : Enqueuing) : Type 0 where
  pub room : length channel_states < room_of enqueuing.marks
  pub places : HasWaitingPlaces enqueuing
  pub rests : (number : ℕ) (channel_state : ChannelState)
      → slice_get channel_states number ≡ Some channel_state
      → bit_of enqueuing.marks number ≡ 0 → IsResting parts enqueuing number channel_state

-- A channel has had its turn: where it is marked no more it enqueues nothing, or waits while it is
-- open. Who waited still does.
pub record MarksIdle (cycle : ℕ) (channel_state : ChannelState) (number : ℕ) (old new : Enqueuing) :
    Type 0 where
  pub room : room_of new.marks ≡ room_of old.marks
  pub places : HasWaitingPlaces new
  pub own : bit_of new.marks number ≡ 0 → (EnqueuesNothing channel_state)
      ⊎ ((is_open channel_state cycle ≡ true) × (IsWaiting new number channel_state.sender))
  pub away : (other : ℕ) → other ≢ number → bit_of new.marks other ≡ bit_of old.marks other
  pub kept : (other : ℕ) (end : ChannelEnd) → IsWaiting old other end → IsWaiting new other end

-- The channels that wait at some interfaces are marked. Who isn't marked wasn't before, and waits as
-- before, at none of those.
pub record MarksActive (Is : ℕ → Type 0) (old new : Enqueuing) : Type 0 where
  pub room : room_of new.marks ≡ room_of old.marks
  pub places : HasWaitingPlaces new
  pub marked : (number : ℕ) → bit_of new.marks number ≡ 0 → bit_of old.marks number ≡ 0
  pub kept : (number : ℕ) (end : ChannelEnd) → bit_of new.marks number ≡ 0
      → IsWaiting old number end → IsWaiting new number end
  pub others : (number : ℕ) (end : ChannelEnd) → bit_of new.marks number ≡ 0
      → IsWaiting old number end → Is end.ni.0 → ⊥

-- One of these events is for a component.
abbrev pub HasEvent : List Event → ℕ → Type 0
HasEvent events number = list_any (λ event. event_part event == number) events ≡ true
