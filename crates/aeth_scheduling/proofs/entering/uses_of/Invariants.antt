use Rattle.std.proofs.Common.{take}
use Rattle.aeth_scheduling.specs.Entered.{AreUsesOf}
use Rattle.aeth_scheduling.proofs.entering.uses_of.Given as goal

-- The use cases of the rows so far.
abbrev pub invariant-loop-row : goal.invariant-loop-row
invariant-loop-row l = AreUsesOf (take l.row-index l.rows) l.entered.items
