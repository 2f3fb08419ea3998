-- Whole runs of a network.
-- This project's own.
use Rattle.std.proofs.Common.{◌≡◌, ◌≤◌, ◌<◌, ℕ, ◌+◌, false, [], Option, Some, None}
use Rattle.aeth_clocked.specs.declared.flit.Flit.{Flit}
use Rattle.aeth_invariant.specs.RoutedSessions.{RoutedSessions, flow_at, server_at}
use Rattle.aeth_invariant.specs.Switches.{IsEntryAt, IsSetNow, route_of}
use Rattle.aeth_invariant.specs.Cycle.{NetCycle}
use Rattle.aeth_invariant.specs.Components.{Net, queue_of}

module _ (sessions : RoutedSessions) where
  -- As the components stand once the tables of the first use case were written, before cycle 0.
  pub record Begins (net : Net) : Type 0 where
    pub entry_only : (n x queue : ℕ) → net.entry n x ≡ Some queue → IsSetNow sessions 0 n x queue
    pub entry_all : (n x c : ℕ) → IsEntryAt sessions n x c
        → (sessions.routed_session c).slot_set x ≡ 0
        → net.entry n x ≡ Some (sessions.routed_session c).queue
    pub route : (c : ℕ) → c < sessions.count → (sessions.routed_session c).set ≡ 0
        → (queue_of sessions net c).route ≡ Some (route_of (flow_at sessions c))
    pub counter : (c : ℕ) → c < sessions.count → (sessions.routed_session c).set ≡ 0
        → (queue_of sessions net c).counter ≡ (server_at sessions c).buffer
    pub waiting : (c : ℕ) → c < sessions.count → (queue_of sessions net c).waiting ≡ []
    pub received : (c : ℕ) → c < sessions.count → (queue_of sessions net c).received ≡ []
    pub owed : (c : ℕ) → c < sessions.count → (queue_of sessions net c).owed ≡ 0
    pub halted : (c : ℕ) → c < sessions.count → (queue_of sessions net c).halted ≡ false
    pub room : (c : ℕ) → c < sessions.count
        → (server_at sessions (sessions.opposite c)).buffer ≤ (queue_of sessions net c).room
    pub held : (l : ℕ) → net.held l ≡ None
    pub enqueued : (c : ℕ) → c < sessions.count → net.enqueued c ≡ 0

  -- A whole run: the components before each cycle, and the wires of each cycle.
  pub record History (nets : ℕ → Net) (wires : ℕ → ℕ → Option Flit) : Type 0 where
    pub begins : Begins (nets 0)
    pub goes : (t : ℕ) → NetCycle sessions t (nets t) (wires t) (nets (t + 1))
