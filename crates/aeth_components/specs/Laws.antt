-- What refilling and taking do to a channel state and its queue, where no two open channel states
-- share one.
-- This project's own.
use Rattle.std.proofs.Common.{◌≡◌, ◌+◌, ℕ, true, false, List, Some, map, ◌<◌, ◌≤◌, fold, length}
use Rattle.std.proofs.Common.{slice_get}
use Rattle.aeth_router.specs.declared.part.Part.{Part}
use Rattle.aeth_components.specs.{declared.channel_state.ChannelState.ChannelState, Alone.Done}
use Rattle.aeth_components.specs.{Alone.IsAlone, Alone.Stays, Counting.brings, Counting.noted}
use Rattle.aeth_components.specs.{Wirings.wiring_of, ChannelStates.is_open, Phases.Moment}
use Rattle.aeth_components.specs.{Phases.asked_of, Phases.in_turn, Phases.left_of, Phases.pulled}
use Rattle.aeth_components.specs.{Phases.refilled, Queues.dequeued, Queues.dequeues, Queues.filled}
use Rattle.aeth_components.specs.{Queues.fits, View.HasQueue}

-- Refilling, of the words of all channel states in a cycle.
pub record RefillsAlone (words : List ℕ) (cycle : ℕ) (moment : Moment) : Type 0 where
  -- An open channel state enqueues what fits.
  pub own : (number : ℕ) (channel_state : ChannelState)
      → slice_get moment.channel_states number ≡ Some channel_state
      → is_open channel_state cycle ≡ true
      → HasQueue (map wiring_of moment.parts) channel_state.sender
      → IsAlone (λ s. is_open s cycle) (λ s. s.sender) moment.channel_states number
      channel_state.sender.ni.0
      channel_state.sender.queue
      → Done (λ s. s.sender) (λ s. filled (left_of words s)) (λ s. fits (left_of words s))
      (λ s n. record s { enqueued = s.enqueued + n }) moment (in_turn (refilled words cycle) moment)
      number channel_state
  -- A channel state that isn't open stays.
  pub closed : (number : ℕ) (channel_state : ChannelState)
      → slice_get moment.channel_states number ≡ Some channel_state
      → is_open channel_state cycle ≡ false
      → slice_get (in_turn (refilled words cycle) moment).channel_states number ≡ Some channel_state
  -- A queue that no open channel state sends from stays.
  pub other : (ni queue : ℕ)
      → IsAlone (λ s. is_open s cycle) (λ s. s.sender) moment.channel_states
      (length moment.channel_states) ni
      queue → Stays moment (in_turn (refilled words cycle) moment) (length moment.channel_states) ni
      queue

-- Taking, in a cycle.
pub record TakesAlone (cycle : ℕ) (moment : Moment) : Type 0 where
  -- An open channel state's receiver takes what it may.
  pub own : (number : ℕ) (channel_state : ChannelState)
      → slice_get moment.channel_states number ≡ Some channel_state
      → is_open channel_state cycle ≡ true
      → HasQueue (map wiring_of moment.parts) channel_state.receiver
      → IsAlone (λ s. is_open s cycle) (λ s. s.receiver) moment.channel_states number
      channel_state.receiver.ni.0 channel_state.receiver.queue
      → Done (λ s. s.receiver) (λ s. dequeued (asked_of s)) (λ s. dequeues (asked_of s))
      (λ s n. record s { taken = s.taken + n }) moment (in_turn (pulled cycle) moment)
      number channel_state
  -- A channel state that isn't open stays.
  pub closed : (number : ℕ) (channel_state : ChannelState)
      → slice_get moment.channel_states number ≡ Some channel_state
      → is_open channel_state cycle ≡ false
      → slice_get (in_turn (pulled cycle) moment).channel_states number ≡ Some channel_state
  -- A queue at which no open channel state receives stays.
  pub other : (ni queue : ℕ)
      → IsAlone (λ s. is_open s cycle) (λ s. s.receiver) moment.channel_states
      (length moment.channel_states) ni
      queue → Stays moment (in_turn (pulled cycle) moment) (length moment.channel_states) ni queue

-- A word of a channel lands in a cycle whose place this is among those of all.
abbrev pub LandsAt : ℕ → List Part → ChannelState → ℕ → Type 0
LandsAt cycle parts channel_state place =
    (is_open channel_state cycle ≡ true) × (channel_state.first + channel_state.landed ≤ place)
    × (place < channel_state.first + channel_state.landed + brings parts channel_state)

-- What is noted of landings: the next cycle at each place whose word lands, and at no other.
pub record NotesAlone (cycle : ℕ) (parts : List Part) (channel_states : List ChannelState)
    (landings : List ℕ) :
    Type 0 where
  pub own : (number : ℕ) (channel_state : ChannelState) (place : ℕ)
      → slice_get channel_states number ≡ Some channel_state
      → LandsAt cycle parts channel_state place → place < length landings
      → slice_get (fold (noted cycle parts) landings channel_states) place ≡ Some (cycle + 1)
  pub other : (place : ℕ)
      → ((number : ℕ) (channel_state : ChannelState)
      → slice_get channel_states number ≡ Some channel_state
      → LandsAt cycle parts channel_state place → ⊥)
      → slice_get (fold (noted cycle parts) landings channel_states) place
      ≡ slice_get landings place
