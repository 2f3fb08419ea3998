use Rattle.std.proofs.Common.{length, take}
use Rattle.aeth_chip.specs.Index.{HasEntries, IsNiLink}
use Rattle.aeth_chip.specs.declared.node.End.TheVariants.{From, To}
use Rattle.aeth_chip.proofs.lists.enter_nis.Given as goal

-- The links so far.
abbrev pub invariant-loop-number : goal.invariant-loop-number
invariant-loop-number l = record {
  outgoing : HasEntries (IsNiLink From (take l.number l.links)) (length l.initial.outgoing)
      l.outgoing;
  incoming : HasEntries (IsNiLink To (take l.number l.links)) (length l.initial.incoming)
      l.incoming;
}
