-- The channels of a network.
-- This project's own.
use Rattle.std.proofs.Common.{◌≡◌, ◌≤◌, ◌<◌, ℕ, List, Some, slice_get}
use Rattle.aeth_components.specs.declared.channel_state.ChannelState.{ChannelState}

-- The channels, each with its session of the time, and the words of all sessions.
pub record ChannelsState : Type 0 where
  pub channel_states : List ChannelState
  pub words : List ℕ

-- From a number on, up to another, the channels have nothing of a kind to do.
abbrev pub AreStill : (ChannelState → Type 0) → List ChannelState → ℕ → ℕ → Type 0
AreStill IsStill channel_states from end =
    (number : ℕ) (channel_state : ChannelState) → from ≤ number → number < end
    → slice_get channel_states number ≡ Some channel_state → IsStill channel_state

-- What is true of the channel of a number, where there is one.
abbrev pub OfChannelState : List ChannelState → ℕ → (ChannelState → Type 0) → Type 0
OfChannelState channel_states number P = (channel_state : ChannelState)
    → slice_get channel_states number ≡ Some channel_state → P channel_state
