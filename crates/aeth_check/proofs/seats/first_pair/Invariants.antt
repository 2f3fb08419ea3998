use Rattle.std.proofs.Common.{◌≡◌, length}
use Rattle.aeth_check.specs.{Firsts.first_pair, Seats.is_one_seat}
use Rattle.aeth_check.proofs.seats.first_pair.Given as goal

-- The first two that are one are among those that are left.
abbrev pub invariant-seats : goal.invariant-seats
invariant-seats l = first_pair is_one_seat l.line l.left ≡ first_pair is_one_seat l.first l.seats

abbrev pub decreases-seats : goal.decreases-seats
decreases-seats l = length l.left
