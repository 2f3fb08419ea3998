use Rattle.std.proofs.Common.{◌≤◌, ◌+◌, ◌-◌, length}
use Rattle.aeth_network.specs.Behind.{passed}
use Rattle.aeth_network.proofs.places.behind.Given as goal

-- The place lies behind the rows of earlier cycles, and not behind those of later ones.
abbrev pub invariant-rows : goal.invariant-rows
invariant-rows g l = record {
  least : passed g.T.InCycle.cycle l.time l.rows ≤ l.place;
  most : l.place ≤ passed g.T.InCycle.cycle (l.time + 1) l.rows;
}

-- How many are left.
abbrev pub decreases-rows : goal.decreases-rows
decreases-rows g l = length l.rows - l.place
