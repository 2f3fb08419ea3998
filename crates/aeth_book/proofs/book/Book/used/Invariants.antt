use Rattle.std.proofs.Common.{◌≡◌, take}
use Rattle.aeth_book.proofs.UseLemmas.{used_by}
use Rattle.aeth_book.proofs.book.Book.used.Given as goal

-- The greatest number in the use cases so far.
abbrev pub invariant-loop-u : goal.invariant-loop-u
invariant-loop-u l = l.most ≡ used_by l.self l.unit l.link.0 (take l.u-index l.u-items)
