-- That a network loses nothing in a cycle.
--
--   HasGoneOn      a flit that came to a router has gone on
--   HoldsAll      a receive queue has each word that landed there and wasn't taken
--   LosesNothing      both, of all routers and all sessions
-- This project's own.
use Rattle.std.proofs.Common.{◌≡◌, ◌≤◌, ◌<◌, ◌+◌, ◌-◌, ℕ, List, Option, Some, length}
use Rattle.aeth_clocked.specs.{Wires.flit_on, declared.flit.Flit.Flit}
use Rattle.aeth_ni.specs.Queue.{QueueState}
use Rattle.aeth_router.specs.Ports.{hopped}
use Rattle.aeth_server.specs.PrivateServer.{landed, taken}
use Rattle.aeth_components.specs.{Components.ComponentsState, View.queue_of}
use Rattle.aeth_invariant.specs.Carried.{words_from}
use Rattle.aeth_invariant.specs.RoutedSessions.{AtRouter, RoutedSessions, Owns, flow_at, server_at}
use Rattle.aeth_accepted.specs.Inputs.{Inputs}
use Rattle.aeth_routed_sessions.specs.RoutedSessions.{routed_sessions_of}

-- A wire that starts at a router has a flit, behind its hop.
pub record HasGoneOn (sessions : RoutedSessions) (router : ℕ) (flit : Flit)
    (wires : List (Option Flit)) : Type 0
  where
    pub wire : ℕ
    pub starts : sessions.start wire ≡ AtRouter router
    pub has : flit_on wires wire ≡ Some (hopped flit)

-- The receive queue from whose number a session sends has all words of the opposite session that have landed once t
-- cycles are done and weren't taken, in their order. They are no more than its buffer, for which the queue has room.
pub record HoldsAll (sessions : RoutedSessions) (c t : ℕ) (queue : QueueState) : Type 0 where
  pub words : let d = sessions.opposite c in
      queue.received ≡ words_from (flow_at sessions d).values (taken (server_at sessions d) t)
      (landed (server_at sessions d) (t + 1) - taken (server_at sessions d) t)
  pub within : length queue.received ≤ (server_at sessions (sessions.opposite c)).buffer
  pub room : (server_at sessions (sessions.opposite c)).buffer ≤ queue.room

-- Of components behind t cycles, which were these before the last: each flit on a wire that ended at a router has gone
-- on, and each receive queue in use has its words. So no flit was lost at a router, and no receive queue was full when
-- a word came.
pub record LosesNothing (inputs : Inputs) (t : ℕ) (old new : ComponentsState) : Type 0 where
  pub routers : (m r : ℕ) (flit : Flit) → (routed_sessions_of inputs).end m ≡ AtRouter r
      → flit_on old.wires m ≡ Some flit → HasGoneOn (routed_sessions_of inputs) r flit new.wires
  pub queues : (c : ℕ) → c < (routed_sessions_of inputs).count
      → Owns (routed_sessions_of inputs) c t
      → HoldsAll (routed_sessions_of inputs) c t
      (queue_of new.parts ((routed_sessions_of inputs).routed_session c).ni
      ((routed_sessions_of inputs).routed_session c).queue)
