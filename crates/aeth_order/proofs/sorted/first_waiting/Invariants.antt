use Rattle.std.proofs.Common.{◌≤◌, length}
use Rattle.aeth_order.{specs.Grid.waits, proofs.SortedLemmas.FailFrom}
use Rattle.aeth_order.proofs.sorted.first_waiting.Given as goal

-- So many are left, and none behind them is meant.
abbrev pub invariant-loop-left : goal.invariant-loop-left
invariant-loop-left l = record {
  within : l.left ≤ length l.order;
  others : FailFrom (waits l.marks) l.order l.left;
}

abbrev pub decreases-loop-left : goal.decreases-loop-left
decreases-loop-left l = l.left
