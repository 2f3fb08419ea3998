use Rattle.std.proofs.Common.{◌≤◌, length}
use Rattle.aeth_order.proofs.sorted.place_of.Given as goal

-- So many of the list are left.
abbrev pub invariant-loop-left : goal.invariant-loop-left
invariant-loop-left l = l.left ≤ length l.order

abbrev pub decreases-loop-left : goal.decreases-loop-left
decreases-loop-left l = l.left
