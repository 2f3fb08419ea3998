use Rattle.std.proofs.Common.{◌≡◌}
use Rattle.aeth_ground_tests.proofs.enumeration.set_of.Given as goal

-- A slot that is put in changes no size.
abbrev pub invariant-loop-slot : goal.invariant-loop-slot
invariant-loop-slot l = l.set.size ≡ l.size
