use Rattle.aeth_chip.{specs.Index.IsFurther, specs.Index.HasEntries, proofs.SumLemmas.AreSums}
use Rattle.aeth_chip.proofs.index.further_of.Given as goal

-- The links so far.
abbrev pub invariant-loop-link : goal.invariant-loop-link
invariant-loop-link l = record {
  table : HasEntries (IsFurther l.links) l.link-index l.further.items;
  sums : AreSums l.links l.link-index l.before l.wires;
}
