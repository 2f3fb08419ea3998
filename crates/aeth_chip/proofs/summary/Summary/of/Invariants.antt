use Rattle.aeth_chip.proofs.SummaryLemmas.{IsSummaryBefore}
use Rattle.aeth_chip.proofs.summary.Summary.of.Given as goal

-- The numbers are those of the pairs so far.
abbrev pub invariant-loop-b : goal.invariant-loop-b
invariant-loop-b l = IsSummaryBefore l.chip l.b 0 l.far l.unreached

abbrev pub invariant-loop-a : goal.invariant-loop-a
invariant-loop-a l = IsSummaryBefore l.chip l.b l.a l.far l.unreached
