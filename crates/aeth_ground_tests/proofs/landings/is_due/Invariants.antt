use Rattle.std.proofs.Common.{◌≡◌}
use Rattle.aeth_ground_tests.proofs.landings.is_due.Given as goal

abbrev pub invariant-loop-i : goal.invariant-loop-i
invariant-loop-i l = l.due.words ≡ l.i
