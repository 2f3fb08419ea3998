use Rattle.aeth_group.proofs.PassLemmas.{Passing}
use Rattle.aeth_group.proofs.closing.pass.Given as goal

-- The pairs so far lead over.
abbrev pub invariant-loop-u : goal.invariant-loop-u
invariant-loop-u l = Passing l.fn.marks l.marks l.added l.u 0

abbrev pub invariant-loop-w : goal.invariant-loop-w
invariant-loop-w l = Passing l.fn.marks l.marks l.added l.u l.w
