-- The network of accepted inputs, cycle by cycle.
--
--   IsLatest      a session that went, and was not followed yet on its channel
--   IsLastOf, HasLast      a channel has what a log says of its session
--   HoldsBefore      what holds of the components before a cycle
--   IsServing      what holds of them once they are ready for it
-- This project's own.
use Rattle.std.proofs.Common.{◌≡◌, ◌≤◌, ◌<◌, ℕ, ◌+◌, ◌*◌, min, Some, length, slice_get}
use Rattle.aeth_server.specs.PrivateServer.{landed, taken}
use Rattle.aeth_components.specs.Components.{ComponentsState, IsComponents, wirings_of}
use Rattle.aeth_components.specs.declared.channel_state.ChannelState.{ChannelState}
use Rattle.aeth_invariant.specs.RoutedSessions.{server_at}
use Rattle.aeth_accepted.specs.Inputs.{Inputs}
use Rattle.aeth_routed_sessions.specs.RoutedSessions.{routed_sessions_of}
use Rattle.aeth_schedule.specs.Values.{values_of}
use Rattle.aeth_refinement.specs.{Following.Follows, Running.Prepares, Running.Runs}
use Rattle.aeth_refinement.specs.{Logging.CountsFlits, Logging.HasLogged, Logging.NotesLandings}
use Rattle.aeth_stimuli.specs.{Loaded.loaded_components, Sessions.channel_of, Sessions.first_of}

module _ (inputs : Inputs) where
  -- A session went before cycle t, and no later one of its channel did.
  pub record IsLatest (t c : ℕ) : Type 0 where
    pub known : c < (routed_sessions_of inputs).count
    pub gone : (server_at (routed_sessions_of inputs) c).go < t
    pub last : (d : ℕ) → d < (routed_sessions_of inputs).count
        → (server_at (routed_sessions_of inputs) d).go < t
        → channel_of inputs d ≡ channel_of inputs c
        → (server_at (routed_sessions_of inputs) d).go
        ≤ (server_at (routed_sessions_of inputs) c).go

  -- A channel as a session left it, within t cycles: with the place of its first word, and with what
  -- has landed and was taken up to its finish.
  pub record IsLastOf (t c : ℕ) (channel_state : ChannelState) : Type 0 where
    pub first_is : channel_state.first ≡ first_of inputs c
    pub landed_is : channel_state.landed ≡ landed (server_at (routed_sessions_of inputs) c)
        (min t (server_at (routed_sessions_of inputs) c).finish + 1)
    pub taken_is : channel_state.taken ≡ taken (server_at (routed_sessions_of inputs) c)
        (min t (server_at (routed_sessions_of inputs) c).finish)

  -- The channel of a session is as it left it.
  pub record HasLast (t c : ℕ) (all : ComponentsState) : Type 0 where
    pub channel_state : ChannelState
    pub at : slice_get all.channel_states (channel_of inputs c) ≡ Some channel_state
    pub is : IsLastOf t c channel_state

  -- The components before cycle t.
  pub record HoldsBefore (t : ℕ) (all : ComponentsState) : Type 0 where
    pub enqueued : ℕ → ℕ
    pub runs : Runs (routed_sessions_of inputs) (channel_of inputs) t enqueued all
    pub sound : IsComponents all
    pub wirings : wirings_of all ≡ wirings_of (loaded_components inputs)
    pub words : all.words ≡ values_of inputs.words (length inputs.app.connections)
    pub channel_states : length all.channel_states ≡ 2 * length inputs.app.connections
    pub links : length all.flits ≡ length inputs.chip.links
    pub flits : CountsFlits (routed_sessions_of inputs) t all
    pub notes : NotesLandings (routed_sessions_of inputs) (first_of inputs) t all
    pub logged : (c : ℕ) → IsLatest t c
        → HasLogged (routed_sessions_of inputs) (channel_of inputs) t c all
    pub last : (c : ℕ) → IsLatest t c → HasLast t c all

  -- The components before cycle t, and once they are ready for it: they are prepared, and follow the
  -- private servers.
  pub record IsServing (t : ℕ) (old ready : ComponentsState) : Type 0 where
    pub enqueued : ℕ → ℕ
    pub prepares : Prepares (routed_sessions_of inputs) (channel_of inputs) t old ready
    pub follows : Follows (routed_sessions_of inputs) (channel_of inputs) t t enqueued ready
