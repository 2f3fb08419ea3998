-- What components have counted of a run.
--
--   is_carried, flits_by      in how many cycles a wire carried a flit
--   CountsFlits      the components have counted that of each link
--   NotesLandings      they have noted when each word landed, at its place among all words
--   HasLogged      the channel of a session has what a log says of it
-- This project's own.
use Rattle.std.proofs.Common.{◌≡◌, ◌≤◌, ◌<◌, ℕ, ◌+◌, ◌==◌, min, not, Bool, Some, count_by, length}
use Rattle.std.proofs.Common.{slice_get}
use Rattle.std.specs.List.{range_with_len}
use Rattle.aeth_components.specs.Components.{ComponentsState}
use Rattle.aeth_components.specs.declared.channel_state.ChannelState.{ChannelState}
use Rattle.aeth_server.specs.PrivateServer.{landed, taken}
use Rattle.aeth_invariant.specs.Carries.{carries}
use Rattle.aeth_invariant.specs.RoutedSessions.{RoutedSessions, IsOpenSession, server_at}
use Rattle.aeth_refinement.specs.Served.{IsChannelStateOf}

module _ (sessions : RoutedSessions) where
  -- Whether a wire carries a flit in a cycle, and in how many of the first t cycles.
  abbrev pub is_carried : ℕ → ℕ → Bool
  is_carried l u = not (length (carries sessions l u) == 0)

  abbrev pub flits_by : ℕ → ℕ → ℕ
  flits_by l t = count_by (is_carried l) (range_with_len 0 t)

  -- For each link that is counted the cycles before t in which its first wire carried a flit.
  abbrev pub CountsFlits : ℕ → ComponentsState → Type 0
  CountsFlits t all = (l count : ℕ) → slice_get all.flits l ≡ Some count → count ≡ flits_by l t

  -- Of each session the words that have landed within t cycles, each with the cycle in which it did:
  -- that behind the one in which its flit was latched. The first word of a session is at its place
  -- among those of all.
  abbrev pub NotesLandings : (ℕ → ℕ) → ℕ → ComponentsState → Type 0
  NotesLandings first t all = (c i u : ℕ) → c < sessions.count → IsOpenSession sessions c u → u < t
      → landed (server_at sessions c) (u + 1) ≤ i → i < landed (server_at sessions c) (u + 2)
      → slice_get all.landings (first c + i) ≡ Some (u + 1)

  -- A session that went before cycle t, and was not followed on its channel yet, has there what has
  -- landed and what was taken up to its finish.
  pub record HasLogged (channel : ℕ → ℕ) (t c : ℕ) (all : ComponentsState) : Type 0 where
    pub channel_state : ChannelState
    pub at : slice_get all.channel_states (channel c) ≡ Some channel_state
    pub of : IsChannelStateOf sessions all.words c channel_state
    pub landed_is : channel_state.landed
        ≡ landed (server_at sessions c) (min t (server_at sessions c).finish + 1)
    pub taken_is : channel_state.taken
        ≡ taken (server_at sessions c) (min t (server_at sessions c).finish)
