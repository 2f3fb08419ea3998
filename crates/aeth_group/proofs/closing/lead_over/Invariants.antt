use Rattle.aeth_group.proofs.MarkLemmas.{Leading}
use Rattle.aeth_group.proofs.closing.lead_over.Given as goal

-- The first is marked with all so far that the second is marked with.
abbrev pub invariant-loop-v : goal.invariant-loop-v
invariant-loop-v l = Leading l.initial.marks l.marks l.added l.u l.w l.v
