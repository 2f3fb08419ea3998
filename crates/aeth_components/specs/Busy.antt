-- Which channels may have something to do, as marks of their numbers. A cycle looks at these alone. No contract of a
-- cycle speaks of marks; the invariant does.
--
--   IsChannelIdle              a channel with nothing to do
--   HandsNothing, TakesNothing one that enqueues nothing, and one whose receiver takes nothing
--   AreMarked                  masks that mark all others
--   AreNoted                   what the masks of a network mark
--
-- This project's own.
use Rattle.std.proofs.Common.{◌≡◌, ◌≤◌, ◌<◌, ◌⊎◌, ℕ, List, Some, length, slice_get}
use Rattle.aeth_base.specs.Marks.{bit_of, room_of}
use Rattle.aeth_components.specs.{Homes.AreHomes, declared.homes.Homes.Homes}
use Rattle.aeth_components.specs.{declared.channel_state.ChannelState.ChannelState}

-- All words that are accepted were enqueued, have landed, and were taken.
pub record IsChannelIdle (channel_state : ChannelState) : Type 0 where
  pub enqueued : channel_state.accepted ≤ channel_state.enqueued
  pub landed : channel_state.enqueued ≤ channel_state.landed
  pub taken : channel_state.landed ≤ channel_state.taken

-- All words that are accepted were enqueued.
abbrev pub EnqueuesNothing : ChannelState → Type 0
EnqueuesNothing channel_state = channel_state.accepted ≤ channel_state.enqueued

-- All words that have landed were taken, or the receiver takes none.
abbrev pub TakesNothing : ChannelState → Type 0
TakesNothing channel_state = (channel_state.landed ≤ channel_state.taken) ⊎ (channel_state.pull ≡ 0)

-- A channel whose bit is 0 has nothing of a kind to do.
pub record AreMarked (IsStill : ChannelState → Type 0) (masks : List ℕ)
    (channel_states : List ChannelState) : Type 0 where
  pub size : length channel_states < room_of masks
  pub idle : (number : ℕ) (channel_state : ChannelState)
      → slice_get channel_states number ≡ Some channel_state
      → bit_of masks number ≡ 0 → IsStill channel_state

-- What masks mark: the channels that may not be idle, and those whose receivers may take words. Each
-- channel is noted at its place.
pub record AreNoted (busy taking : List ℕ) (homes : Homes) (channel_states : List ChannelState) :
    Type 0 where
  pub idle : AreMarked IsChannelIdle busy channel_states
  pub takes : AreMarked TakesNothing taking channel_states
  pub places : AreHomes homes channel_states
