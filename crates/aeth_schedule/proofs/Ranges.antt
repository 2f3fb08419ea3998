-- Parts of lists.
use Rattle.std.proofs.Common.{◌≡◌, ◌-◌, ◌∙◌, ℕ, List, ap, drop, map, take, slice_range}
use Rattle.std.proofs.lemmas.List.{drop-map, take-map}

-- A part of a list whose elements are changed.
pub range-map : {X Y : Type 0} (f : X → Y) (xs : List X) (from to : ℕ)
    → slice_range (map f xs) from to ≡ map f (slice_range xs from to)
range-map f xs from to =
    ap (take (to - from)) (drop-map f from xs) ∙ take-map f (to - from) (drop from xs)
