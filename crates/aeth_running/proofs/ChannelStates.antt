-- A channel before a cycle: it has no session yet, or its latest one, with what it has accepted.
use Rattle.std.proofs.Common.{◌≡◌, ◌<◌, ℕ, Some, slice_get}
use Rattle.aeth_base.specs.declared.ids.Channel.{Channel}
use Rattle.aeth_trace.specs.Channels.{channel_number}
use Rattle.aeth_components.specs.declared.channel_state.ChannelState.{ChannelState}
use Rattle.aeth_server.specs.PrivateServer.{arrived}
use Rattle.aeth_invariant.specs.RoutedSessions.{server_at}
use Rattle.aeth_accepted.specs.Inputs.{Inputs}
use Rattle.aeth_routed_sessions.specs.RoutedSessions.{routed_sessions_of}
use Rattle.aeth_running.proofs.ChannelRows.{pull_before}
use Rattle.aeth_running.specs.{Network.NetworkState, Running.IsLatest}
use Rattle.aeth_stimuli.specs.Sessions.{channel_of, first_of}

module _ (inputs : Inputs) where
  -- No session went over the channel before cycle t, and it accepts no words; or its latest one did, and
  -- it has accepted what has arrived by then.
  pub data StandsAt (t : ℕ) (channel : Channel) (until : ℕ) (channel_state : ChannelState) : Type
      0 where
    Unused : ((c : ℕ) → c < (routed_sessions_of inputs).count
        → channel_of inputs c ≡ channel_number channel
        → (server_at (routed_sessions_of inputs) c).go < t → ⊥) → until ≡ 0
        → StandsAt t channel until channel_state
    Used : (c : ℕ) → IsLatest inputs t c → channel_of inputs c ≡ channel_number channel
        → until ≡ (server_at (routed_sessions_of inputs) c).until
        → channel_state.accepted ≡ arrived (server_at (routed_sessions_of inputs) c) t
        → channel_state.first ≡ first_of inputs c → StandsAt t channel until channel_state

  -- A network has the channel so, and its receiver takes as the rows before the cycle say.
  pub record HasChannel (t : ℕ) (network : NetworkState) (channel : Channel) : Type 0 where
    pub channel_state : ChannelState
    pub until : ℕ
    pub at : slice_get network.components.channel_states (channel_number channel)
        ≡ Some channel_state
    pub until_at : slice_get network.untils (channel_number channel) ≡ Some until
    pub pull_is : channel_state.pull ≡ pull_before inputs channel t
    pub stands : StandsAt t channel until channel_state
