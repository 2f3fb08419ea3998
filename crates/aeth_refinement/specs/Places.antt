-- Where the words of sessions stand among those of all.
-- This project's own.
use Rattle.std.proofs.Common.{◌≡◌, ◌≤◌, ◌<◌, ℕ, ◌+◌, List, Some, length, slice_get}
use Rattle.aeth_components.specs.declared.channel_state.ChannelState.{ChannelState}
use Rattle.aeth_invariant.specs.RoutedSessions.{RoutedSessions, IsOpenSession, flow_at}

-- The values of each session stand from a place of its own on, among so many words, and no two
-- sessions share one.
pub record ArePlaced (sessions : RoutedSessions) (first : ℕ → ℕ) (words : ℕ) : Type 0 where
  pub within : (c : ℕ) → c < sessions.count → first c + length (flow_at sessions c).values ≤ words
  pub once : (c d i j : ℕ) → c < sessions.count → d < sessions.count
      → i < length (flow_at sessions c).values → j < length (flow_at sessions d).values
      → first c + i ≡ first d + j → c ≡ d

-- The channel of each session in use has the place of its first word.
abbrev pub HavePlaces : RoutedSessions → (ℕ → ℕ) → (ℕ → ℕ) → ℕ → List ChannelState → Type 0
HavePlaces sessions channel first t channel_states = (c : ℕ) (channel_state : ChannelState)
    → c < sessions.count
    → IsOpenSession sessions c t → slice_get channel_states (channel c) ≡ Some channel_state
    → channel_state.first ≡ first c
