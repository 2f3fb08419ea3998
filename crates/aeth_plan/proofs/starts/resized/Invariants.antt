use Rattle.std.proofs.Common.{◌≡◌, ◌++◌}
use Rattle.aeth_plan.proofs.starts.resized.Given as goal

-- The slots so far, and those that are left.
abbrev pub invariant-loop-start : goal.invariant-loop-start
invariant-loop-start l = record {
  size : l.other.size ≡ l.size;
  slots : l.other.slots ++ l.start-iterator ≡ l.set.slots;
}
