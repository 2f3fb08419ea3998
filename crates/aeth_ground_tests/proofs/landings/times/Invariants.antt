use Rattle.std.proofs.Common.{◌≤◌}
use Rattle.aeth_ground_tests.proofs.landings.times.Given as goal

abbrev pub invariant-loop-cycle : goal.invariant-loop-cycle
invariant-loop-cycle l = l.count ≤ l.cycle-index
