use Rattle.std.proofs.Common.{◌≡◌, take}
use Rattle.aeth_book.proofs.UseLemmas.{joined_by}
use Rattle.aeth_book.proofs.book.Book.taken.Given as goal

-- What the use cases so far occupy.
abbrev pub invariant-loop-u : goal.invariant-loop-u
invariant-loop-u l = l.taken ≡ joined_by l.self l.unit l.link.0 (take l.u-index l.u-items)
