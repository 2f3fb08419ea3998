-- Channels that have room for the words that are still to be offered to them.
--
--   is_accepted, IsFit, AreFit      the words that a session accepts, and room for them
--   HaveCounts      numbers that can still count what is offered
-- This project's own.
use Rattle.std.proofs.Common.{◌≡◌, ◌≤◌, ◌<◌, ◌+◌, ◌^◌, ◌==◌, ◌&&◌, ℕ, All, Bool, List, count_by}
use Rattle.std.proofs.Common.{length, nat_lt, slice_get, slice_index, Some}
use Rattle.aeth_components.specs.ChannelStates.{IsChannelState}
use Rattle.aeth_components.specs.declared.channel_state.ChannelState.{ChannelState}
use Rattle.aeth_stimuli.specs.Stimuli.{Offer}

-- Whether the channel of a number accepts a word, where it accepts words until these cycles.
abbrev pub is_accepted : List ℕ → ℕ → Offer → Bool
is_accepted untils number offer =
    offer.number == number && nat_lt offer.cycle (slice_index untils number)

-- Of the channel of a number what is said so far holds, and there is room among so many words for
-- those that are coming and that it accepts.
pub record IsFit (words parts : ℕ) (untils : List ℕ) (coming : List Offer) (number : ℕ)
    (channel_state : ChannelState) : Type 0 where
  pub sound : IsChannelState words parts channel_state
  pub room : channel_state.first + channel_state.accepted
      + count_by (is_accepted untils number) coming ≤ words

-- Of all channels.
abbrev pub AreFit : ℕ → ℕ → List ℕ → List Offer → List ChannelState → Type 0
AreFit words parts untils coming channel_states = (number : ℕ) (channel_state : ChannelState)
    → slice_get channel_states number ≡ Some channel_state
    → IsFit words parts untils coming number channel_state

-- Each number can still count as many words as are coming.
abbrev pub HaveCounts : List Offer → List ℕ → Type 0
HaveCounts coming numbers = All (λ n. n + length coming < 2 ^ 32) numbers
