use Rattle.std.proofs.Common.{◌≤◌, ◌-◌, length}
use Rattle.aeth_network.{specs.Behind.passed, proofs.PullLemmas.cycle_of}
use Rattle.aeth_network.proofs.next.place_before.Given as goal

-- The place is not behind the rows before the cycle.
abbrev pub invariant-rows : goal.invariant-rows
invariant-rows l = record {
  least : l.from ≤ l.place;
  most : l.place ≤ passed cycle_of l.to l.takes;
}

-- How many rows are left.
abbrev pub decreases-rows : goal.decreases-rows
decreases-rows l = length l.takes - l.place
