use Rattle.aeth_chip.specs.Index.{AreFirstLinks}
use Rattle.aeth_chip.proofs.lists.enter_links.Given as goal

-- The links so far.
abbrev pub invariant-loop-number : goal.invariant-loop-number
invariant-loop-number l = AreFirstLinks l.links l.number l.routers l.its
