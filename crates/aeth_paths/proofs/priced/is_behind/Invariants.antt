use Rattle.std.proofs.Common.{◌≡◌, ◌++◌, List, drop, map}
use Rattle.std.specs.{Cmp.Lexicographic.slice_cmp, Ordering.nat_cmp}
use Rattle.aeth_base.specs.declared.ids.LinkId.{LinkId}
use Rattle.aeth_paths.proofs.priced.is_behind.Given as goal

-- The links so far are the same, however the list goes on.
abbrev pub invariant-loop-i : goal.invariant-loop-i
invariant-loop-i l = (rest : List LinkId)
    → slice_cmp nat_cmp (map (λ (k : LinkId). k.0) (drop l.i (l.path ++ rest)))
    (map (λ (k : LinkId). k.0) (drop l.i l.other))
    ≡ slice_cmp nat_cmp (map (λ (k : LinkId). k.0) (l.path ++ rest))
    (map (λ (k : LinkId). k.0) l.other)
