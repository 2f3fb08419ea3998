use Rattle.aeth_group.{specs.Marks.marked, specs.Numbering.is_first, proofs.Ranges.Counted}
use Rattle.aeth_group.proofs.numbering.firsts_below.Given as goal

-- Those so far are counted.
abbrev pub invariant-loop-u : goal.invariant-loop-u
invariant-loop-u l = Counted (is_first (marked l.marks) l.uses) l.u l.firsts
