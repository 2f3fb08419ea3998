use Rattle.aeth_group.proofs.PassLemmas.{Pairing}
use Rattle.aeth_group.proofs.closing.pairs_of.Given as goal

-- The pairs so far are marked.
abbrev pub invariant-loop-u : goal.invariant-loop-u
invariant-loop-u l = Pairing l.app.uses l.marks l.u 0

abbrev pub invariant-loop-v : goal.invariant-loop-v
invariant-loop-v l = Pairing l.app.uses l.marks l.u l.v
