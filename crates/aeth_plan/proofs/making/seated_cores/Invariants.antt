use Rattle.std.proofs.Common.{◌≡◌}
use Rattle.aeth_plan.proofs.SeatedCores.{lines_from}
use Rattle.aeth_plan.proofs.making.seated_cores.Given as goal

-- The lines of the cores so far.
abbrev pub invariant-loop-core : goal.invariant-loop-core
invariant-loop-core l = l.lines.items ≡ lines_from l.seats.places 0 l.core
