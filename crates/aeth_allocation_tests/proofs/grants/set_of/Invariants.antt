use Rattle.std.proofs.Common.{◌≡◌}
use Rattle.aeth_allocation_tests.proofs.grants.set_of.Given as goal

-- The set is of the table's size.
abbrev pub invariant-loop-slot : goal.invariant-loop-slot
invariant-loop-slot l = l.set.size ≡ l.size
