use Rattle.std.proofs.Common.{◌≡◌, ◌≤◌, ◌<◌, ℕ, Some, slice_get}
use Rattle.aeth_components.specs.declared.channel_state.ChannelState.{ChannelState}
use Rattle.aeth_components.proofs.homes.await_none.Given as goal

-- No words are still to land of the channels so far.
abbrev pub invariant-loop-place : goal.invariant-loop-place
invariant-loop-place l =
    (number : ℕ) (channel_state : ChannelState) → number < l.place
    → slice_get l.channel_states number ≡ Some channel_state
    → channel_state.accepted ≤ channel_state.landed
