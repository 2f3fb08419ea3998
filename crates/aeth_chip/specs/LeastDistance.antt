-- The least number of links between network interfaces as a function.
--
--   lists_of      all lists of so many elements
--   has_path      whether some list of so many links is a path
--   below, least_distance      the least number of links from an interface to an interface
-- This project's own.
use Rattle.std.proofs.Common.{ℕ, zero, suc, ◌+◌, Bool, List, [], ◌∷◌, Option, Some, None, length}
use Rattle.std.proofs.Common.{map, nat_lt, if◌then◌else◌}
use Rattle.std.specs.List.{flat_map, list_any, range_with_len}
use Rattle.aeth_base.specs.Extremes.{least_below}
use Rattle.aeth_base.specs.declared.ids.{LinkId.LinkId, NiId.NiId}
use Rattle.aeth_chip.specs.{declared.node.Link.Link, Chip.ChipData, PathTests.is_path_between}

-- All lists of so many elements of a list.
abbrev pub lists_of : {X : Type 0} → ℕ → List X → List (List X)
lists_of zero xs = [] ∷ []
lists_of (suc count) xs = flat_map (λ x. map (λ rest. x ∷ rest) (lists_of count xs)) xs

-- The numbers of links.
abbrev pub link_ids : List Link → List LinkId
link_ids links = map (λ l. record { 0 = l }) (range_with_len 0 (length links))

-- Whether some list of so many links is a path from an interface to an interface.
unfoldable pub has_path : List Link → NiId → NiId → ℕ → Bool
has_path links a b count =
    list_any (is_path_between links a b) (lists_of count (link_ids links))

-- A number that is below a bound.
abbrev pub below : ℕ → ℕ → Option ℕ
below bound number = if nat_lt number bound then Some number else None

-- The least number of links of a path from an interface to an interface; `None` where there is
-- none. A path passes no router twice: it has at most one link more than there are routers.
unfoldable pub least_distance : ChipData → NiId → NiId → Option ℕ
least_distance chip a b =
    below (length chip.routers + 2)
    (least_below (has_path chip.links a b) (length chip.routers + 2))
