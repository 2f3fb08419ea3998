use Rattle.std.proofs.Common.{◌≤◌, drop, length}
use Rattle.aeth_check.specs.Seats.{AreSeatedAt}
use Rattle.aeth_check.proofs.seating.put_nis.Given as goal

-- The table has the cores of the seats from this one on.
abbrev pub invariant-seats : goal.invariant-seats
invariant-seats l = record {
  within : l.left ≤ length l.seats;
  are : AreSeatedAt (drop l.left l.seats) (length l.fn.nis) l.nis;
}

abbrev pub decreases-seats : goal.decreases-seats
decreases-seats l = l.left
