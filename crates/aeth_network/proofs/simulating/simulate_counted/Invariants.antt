use Rattle.std.proofs.Common.{◌≡◌, ◌≤◌, ◌+◌, ◌-◌, ◌*◌, length}
use Rattle.aeth_components.specs.FlitsOnWires.{flits_on}
use Rattle.aeth_running.specs.{Network.played, Quiet.IsNextBusy}
use Rattle.aeth_network.specs.Carried.{carried_in}
use Rattle.aeth_network.proofs.simulating.simulate_counted.Given as goal

-- The cycles so far are played, and the next busy one is known.
abbrev pub invariant-cycles : goal.invariant-cycles
invariant-cycles g l = record {
  is : l.network ≡ played (l.network.time - l.fn.network.time) l.fn.network;
  least : l.fn.network.time ≤ l.network.time;
  cycles : l.network.log.cycles ≡ l.fn.network.log.cycles;
  parts : length l.network.components.parts ≡ length l.fn.network.components.parts;
  next : IsNextBusy l.network l.next;
  counted : l.steps + 2 * flits_on l.network.components.wires
      ≤ l.fn.steps + 2 * flits_on l.fn.network.components.wires
      + 4 * carried_in (l.network.time - l.fn.network.time) l.fn.network;
}

-- The cycles that are left.
abbrev pub decreases-cycles : goal.decreases-cycles
decreases-cycles g l = l.network.log.cycles - l.network.time
