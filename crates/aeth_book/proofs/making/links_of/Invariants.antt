use Rattle.std.proofs.Common.{◌≡◌, take}
use Rattle.aeth_book.proofs.making.links_of.Given as goal

-- The links so far.
abbrev pub invariant-loop-l : goal.invariant-loop-l
invariant-loop-l l = l.links.items ≡ take l.l l.chip.links
