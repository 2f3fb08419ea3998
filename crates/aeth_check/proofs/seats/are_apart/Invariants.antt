use Rattle.std.proofs.Common.{◌≡◌, ◌≤◌, ℕ, None, drop, length}
use Rattle.aeth_check.specs.{Firsts.first_pair, Seats.HasMarks, Seats.is_one_seat}
use Rattle.aeth_check.proofs.seats.are_apart.Given as goal

-- The seats from this one on are marked, and apart.
abbrev pub invariant-seats : goal.invariant-seats
invariant-seats l = record {
  within : l.left ≤ length l.seats;
  marks : HasMarks (drop l.left l.seats) l.marks;
  apart : (first : ℕ) → first_pair is_one_seat first (drop l.left l.seats) ≡ None;
}

abbrev pub decreases-seats : goal.decreases-seats
decreases-seats l = l.left
