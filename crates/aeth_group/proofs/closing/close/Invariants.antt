use Rattle.aeth_group.specs.Marks.{Extends, unmarked}
use Rattle.aeth_group.proofs.closing.close.Given as goal

-- Marks were added.
abbrev pub invariant-passes : goal.invariant-passes
invariant-passes l = Extends l.fn.marks l.marks

-- The marks that the table lacks.
abbrev pub decreases-passes : goal.decreases-passes
decreases-passes l = unmarked l.marks
