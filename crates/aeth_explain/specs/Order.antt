-- The order of a dictionary. This project's own.
--
--   dictionary      how two lists of links compare
--   Ascend      lists of links in this order, none twice
use Rattle.std.proofs.Common.{List}
use Rattle.std.specs.{Cmp.Lexicographic.slice_cmp, List.Sorted.IsStrictlySortedBy, Ordering.nat_cmp}
use Rattle.std.specs.{Ordering.on, declared.cmp.Ordering.Ordering}
use Rattle.aeth_base.specs.declared.ids.LinkId.{LinkId}

-- How two lists compare: by the first links that differ, and a list comes before those that go on from it.
abbrev pub dictionary : List LinkId → List LinkId → Ordering
dictionary = slice_cmp (on (λ (link : LinkId). link.0) nat_cmp)

-- Each list comes before all that stand behind it.
abbrev pub Ascend : List (List LinkId) → Type 0
Ascend lists = IsStrictlySortedBy dictionary lists
