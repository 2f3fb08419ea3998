use Rattle.std.proofs.Common.{◌≡◌, drop, map}
use Rattle.std.specs.{Cmp.Lexicographic.slice_cmp, Ordering.nat_cmp}
use Rattle.aeth_base.specs.declared.ids.LinkId.{LinkId}
use Rattle.aeth_paths.proofs.priced.comes_before.Given as goal

-- The links so far are the same.
abbrev pub invariant-loop-i : goal.invariant-loop-i
invariant-loop-i l = slice_cmp nat_cmp (map (λ (k : LinkId). k.0) (drop l.i l.path))
    (map (λ (k : LinkId). k.0) (drop l.i l.other.path))
    ≡ slice_cmp nat_cmp (map (λ (k : LinkId). k.0) l.path) (map (λ (k : LinkId). k.0) l.other.path)
