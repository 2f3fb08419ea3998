-- What a channel state does in its turn by itself.
-- This project's own.
use Rattle.std.proofs.Common.{◌≡◌, ℕ, Bool, true, false, List, Some, map, slice_get}
use Rattle.aeth_router.specs.declared.part.Part.{Part}
use Rattle.aeth_components.specs.{declared.channel_state.ChannelEnd.ChannelEnd}
use Rattle.aeth_components.specs.{declared.channel_state.ChannelState.ChannelState, Changes.at_end}
use Rattle.aeth_components.specs.{Changes.told_at, Wirings.wiring_of, Phases.Moment, View.queue_of}
use Rattle.aeth_ni.specs.Queue.{QueueState}

-- A turn that changes a queue of an active channel state, and counts what the queue tells.
pub record Acts (turn : List Part → ChannelState → List Part × ChannelState)
    (active : ChannelState → Bool)
    (end_of : ChannelState → ChannelEnd) (change : ChannelState → QueueState → QueueState)
    (tells : ChannelState → QueueState → ℕ) (counted : ChannelState → ℕ → ChannelState) : Type
    0 where
  pub acts : (parts : List Part) (channel_state : ChannelState) → active channel_state ≡ true
      → turn parts channel_state
      ≡ (
        at_end (end_of channel_state) (change channel_state) parts,
        counted channel_state (told_at (end_of channel_state) (tells channel_state) parts),
      )
  pub rests : (parts : List Part) (channel_state : ChannelState) → active channel_state ≡ false
      → turn parts channel_state ≡ (parts, channel_state)
  pub keeps_active : (channel_state : ChannelState) (n : ℕ)
      → active (counted channel_state n) ≡ active channel_state
  pub keeps_end : (channel_state : ChannelState) (n : ℕ)
      → end_of (counted channel_state n) ≡ end_of channel_state
  pub keeps_wirings : (parts : List Part) (channel_state : ChannelState)
      → map wiring_of (turn parts channel_state).0 ≡ map wiring_of parts

-- The queue is one end.
abbrev pub IsAt : ℕ → ℕ → ChannelEnd → Type 0
IsAt ni queue end = (ni ≡ end.ni.0) × (queue ≡ end.queue)

-- Of the active channel states the one of this number alone, if any, uses the queue.
abbrev pub IsAlone : (ChannelState → Bool) → (ChannelState → ChannelEnd) → List ChannelState → ℕ → ℕ
    → ℕ → Type 0
IsAlone active end_of channel_states own ni queue =
    (i : ℕ) (channel_state : ChannelState) → slice_get channel_states i ≡ Some channel_state
    → active channel_state ≡ true
    → IsAt ni queue (end_of channel_state) → i ≡ own

-- A queue and a channel state stay.
pub record Stays (old new : Moment) (own ni queue : ℕ) : Type 0 where
  pub queue_is : queue_of new.parts ni queue ≡ queue_of old.parts ni queue
  pub channel_state : slice_get new.channel_states own ≡ slice_get old.channel_states own

-- What an active channel state's turn makes of its queue and of itself.
pub record Done (end_of : ChannelState → ChannelEnd)
    (change : ChannelState → QueueState → QueueState)
    (tells : ChannelState → QueueState → ℕ) (counted : ChannelState → ℕ → ChannelState)
    (old new : Moment) (own : ℕ) (channel_state : ChannelState) : Type 0 where
  pub queue_is : queue_of new.parts (end_of channel_state).ni.0 (end_of channel_state).queue
      ≡ change channel_state
      (queue_of old.parts (end_of channel_state).ni.0 (end_of channel_state).queue)
  pub counted_is : slice_get new.channel_states own
      ≡ Some (counted channel_state
      (tells channel_state
      (queue_of old.parts (end_of channel_state).ni.0 (end_of channel_state).queue)))
