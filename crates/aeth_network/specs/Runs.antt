-- Networks of accepted inputs, and what is seen of them.
--
--   IsNetworkOf, HasInputs      the network of accepted inputs, behind as many cycles as are done
--   AreWiresOf      wires that carry what the private servers of a run send
-- This project's own.
use Rattle.std.proofs.Common.{◌≡◌, ◌≤◌, ◌<◌, ◌+◌, ℕ, List, Option, None, Some, length}
use Rattle.std.specs.Option.{option_to_list}
use Rattle.aeth_base.specs.declared.ids.LinkId.{LinkId}
use Rattle.aeth_chip.specs.{Paths.delay_of, Wires.wire_at}
use Rattle.aeth_clocked.specs.{Wires.flit_on, declared.flit.Flit.Flit}
use Rattle.aeth_ni.specs.Component.{Arrival, arrival_of}
use Rattle.aeth_report.specs.Carries.{carries}
use Rattle.aeth_invariant.specs.{Carried.IsPassed, RoutedSessions.AtRouter}
use Rattle.aeth_accepted.specs.Inputs.{AreAccepted, Inputs, run_of}
use Rattle.aeth_routed_sessions.specs.RoutedSessions.{routed_sessions_of}
use Rattle.aeth_running.specs.Network.{NetworkState, first_network, played}
use Rattle.aeth_running.specs.Routing.{IsRoutingFor}

-- The network of accepted inputs, whose routers read headers or have their tables, behind as many of
-- their cycles as are done.
pub record IsNetworkOf (inputs : Inputs) (all : NetworkState) : Type 0 where
  pub accepted : AreAccepted inputs
  pub routed : IsRoutingFor inputs all.routing
  pub within : all.time ≤ inputs.cycles
  pub is : all ≡ played all.time (first_network inputs all.routing)

-- A network is that of accepted inputs.
pub record HasInputs (all : NetworkState) : Type 0 where
  pub inputs : Inputs
  pub of : IsNetworkOf inputs all

-- Once so many cycles are done, the first wire of each link has the one flit that the link carried in
-- the last cycle, by the private servers of the run, or nothing. Each further wire has what the link
-- carried as many cycles before, and nothing before that. No flit is lost at a router, and each can be
-- read.
pub record AreWiresOf (inputs : Inputs) (time : ℕ) (wires : List (Option Flit)) : Type 0 where
  pub first : (l t : ℕ) → l < length inputs.chip.links → time ≡ t + 1
      → option_to_list (flit_on wires l) ≡ carries (run_of inputs) l t
  pub behind : (link : LinkId) (k t : ℕ) → k < delay_of inputs.chip.links link → time ≡ t + k + 1
      → option_to_list (flit_on wires (wire_at inputs.chip.links link.0 k))
      ≡ carries (run_of inputs) link.0 t
  pub early : (link : LinkId) (k : ℕ) → k < delay_of inputs.chip.links link → time ≤ k
      → flit_on wires (wire_at inputs.chip.links link.0 k) ≡ None
  pub empty : (l : ℕ) → time ≡ 0 → flit_on wires l ≡ None
  pub passed : (m r : ℕ) (flit : Flit) → (routed_sessions_of inputs).end m ≡ AtRouter r
      → flit_on wires m ≡ Some flit → IsPassed (routed_sessions_of inputs) (flit_on wires) m r flit
  pub read : (l : ℕ) (flit : Flit) → flit_on wires l ≡ Some flit
      → (arrival : Arrival) × (arrival_of (Some flit) ≡ Some arrival)
