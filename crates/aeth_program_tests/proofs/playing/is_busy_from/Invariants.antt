use Rattle.std.proofs.Common.{◌≡◌, length}
use Rattle.aeth_program_tests.proofs.playing.is_busy_from.Given as goal

-- The order is of all components.
abbrev pub invariant-loop-cycle : goal.invariant-loop-cycle
invariant-loop-cycle l = length l.order ≡ length l.network.components.parts
