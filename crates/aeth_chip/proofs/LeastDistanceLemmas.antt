-- Laws of the least number of links between interfaces as a function: it is the least number that
-- the relation `IsDistance` tells, and the only one.
use Rattle.std.proofs.Common.{◌≡◌, ◌∙◌, ◌+◌, ◌<◌, ◌≤◌, ℕ, zero, suc, Bool, true, false, cond, List}
use Rattle.std.proofs.Common.{[], ◌∷◌, Option, Some, None, length, map, Contains, refl, sym, ap}
use Rattle.std.proofs.Common.{inl, inr, arith, le-ltb, lt-ltb}
use Rattle.std.proofs.lemmas.{Bool.both_ways, Bool.cases_lt, List.Folds.Any-from_list_any}
use Rattle.std.proofs.lemmas.{List.Folds.list_any-from_Any, Option.slice_get_within}
use Rattle.std.specs.{Bool.Decides, List.list_any, List.range_with_len}
use Rattle.aeth_base.specs.Extremes.{least_below}
use Rattle.aeth_base.specs.declared.ids.{LinkId.LinkId, NiId.NiId}
use Rattle.aeth_base.proofs.ExtremeLemmas.{least_below-first, least_below-passes}
use Rattle.aeth_base.proofs.Members.{Contains-cases, Contains-flat_map, Contains-here, Contains-map}
use Rattle.aeth_base.proofs.Members.{Contains-nil, Contains-there, flat_map-Contains, map-Contains}
use Rattle.aeth_base.proofs.Ranges.{Contains-range}
use Rattle.aeth_chip.specs.declared.node.{Link.Link, Node.Node, Node.TheVariants.Ni}
use Rattle.aeth_chip.specs.Chip.{ChipData, IsChip}
use Rattle.aeth_chip.specs.Distances.{AreBelow}
use Rattle.aeth_chip.specs.Joined.{IsJoined}
use Rattle.aeth_chip.specs.LeastDistance.{below, has_path, least_distance, link_ids, lists_of}
use Rattle.aeth_chip.specs.PathTests.{is_path_between}
use Rattle.aeth_chip.specs.Paths.{BeginsAt, IsPath, IsLeast, IsDistance, to_of}
use Rattle.aeth_chip.proofs.{JoinedLaws.joined-each, JoinedLaws.joins-length, LinkLemmas.node_below}
use Rattle.aeth_chip.proofs.{PathTestLemmas.is_path_between-Decides}
use Rattle.aeth_chip.proofs.{RouterLemmas.length-distinct_routers}

-- ---- lists of so many elements

-- A list of so many elements, all in another list, is one of its lists.
pub Contains-lists_of : {X : Type 0} (xs ys : List X) → ((y : X) → Contains ys y → Contains xs y)
    → Contains (lists_of (length ys) xs) ys
Contains-lists_of xs [] each = Contains-here [] []
Contains-lists_of xs (y ∷ ys) each =
    Contains-flat_map (λ x. map (λ rest. x ∷ rest) (lists_of (length ys) xs)) xs y (y ∷ ys)
    (each y (Contains-here y ys))
    (Contains-map (λ rest. y ∷ rest) (lists_of (length ys) xs) ys
    (Contains-lists_of xs ys (λ z has. each z (Contains-there y ys z has))))

-- Each list of so many elements has so many.
length-lists_of : {X : Type 0} (count : ℕ) (xs ys : List X) → Contains (lists_of count xs) ys
    → length ys ≡ count
length-lists_of zero xs ys has = elim (Contains-cases [] [] ys has) [
  | inl same ↦ ap (λ zs. length zs) (sym same)
  | inr none ↦ Contains-nil none
]
length-lists_of (suc count) xs ys has =
    let (x, among, later) =
    flat_map-Contains (λ x. map (λ rest. x ∷ rest) (lists_of count xs)) xs ys has in
    let (rest, same, is_in) = map-Contains (λ rest. x ∷ rest) (lists_of count xs) ys later in
    ap (λ zs. length zs) (sym same) ∙ ap suc (length-lists_of count xs rest is_in)

-- ---- the least number of links of lists that a test tells

-- The least number below a bound that passes a test, where it is below the bound, passes.
least_below-holds : (test : ℕ → Bool) (bound : ℕ) → least_below test bound < bound
    → test (least_below test bound) ≡ true
least_below-holds test zero = λ low. absurd (omega arith)
least_below-holds test (suc n) =
    let split : (v : Bool) → test 0 ≡ v
    → cond v 0 (suc (least_below (λ j. test (suc j)) n)) < suc n
    → test (cond v 0 (suc (least_below (λ j. test (suc j)) n))) ≡ true = elim [
      | true ↦ λ first low. first
      | false ↦ λ fails low. least_below-holds (λ j. test (suc j)) n (omega arith)
    ] in
    split (test 0) refl

-- Lists of a chip's links, for which a property is decided by a test, and which have fewer links
-- than a bound.
module _ (links : List Link) (P : List LinkId → Type 0) (test : List LinkId → Bool)
    (decides : (path : List LinkId) → Decides (test path) (P path))
    (among : (path : List LinkId) → P path → (l : LinkId) → Contains path l
    → l.0 < length links) (bound : ℕ)
    (few : (path : List LinkId) → P path → length path < bound) where
  abbrev has : ℕ → Bool
  has count = list_any test (lists_of count (link_ids links))

  -- Where some list of so many links passes the test, one with the property has so many.
  list_from : (count : ℕ) → has count ≡ true
      → (path : List LinkId) × P path × (length path ≡ count)
  list_from count found =
      let (k, path, within, at, passes) =
      Any-from_list_any test (lists_of count (link_ids links)) found in (
        path,
        (decides path).0 passes,
        length-lists_of count (link_ids links) path (k, within, at),
      )

  -- One with the property passes it at its number of links.
  from_list : (path : List LinkId) → P path → has (length path) ≡ true
  from_list path is =
      let (k, within, at) = Contains-lists_of (link_ids links) path (λ l is_in.
      Contains-map (λ n. record { 0 = n }) (range_with_len 0 (length links)) l.0
      (let low = among path is l is_in in
      Contains-range 0 (length links) l.0 (omega arith) (omega arith))) in
      list_any-from_Any test (lists_of (length path) (link_ids links))
      (k, path, within, at, (decides path).1 is)

  -- The least number of links by the test is that of the property.
  pub least-is : IsLeast P (below bound (least_below has bound))
  least-is =
      let first : ℕ = least_below has bound in
      elim (cases_lt first bound) [
        | inl low ↦
            let (path, is, long) = list_from first (least_below-holds has bound low) in
            rw (lt-ltb first bound low) (record {
              path = path;
              has = is;
              length_is = long;
              none_shorter = λ other route. elim (cases_lt (length other) first) [
                | inl shorter ↦ absurd (both_ways (has (length other))
                    (least_below-first has bound (length other) shorter)
                    (from_list other route))
                | inr longer ↦ longer
              ];
            })
        | inr high ↦ rw (le-ltb first bound high) (λ path route.
            let short = few path route in
            let found = least_below-passes has bound (length path) short (from_list path route) in
            let low = found.within in
            omega arith)
      ]

-- A link of joined links is one of the chip's.
pub joined-within : (links : List Link) (a : Node) (path : List LinkId)
    → IsJoined (BeginsAt links) (to_of links) a path → (l : LinkId) → Contains path l
    → l.0 < length links
joined-within links a path joined l has =
    let (from, goes) = joined-each (BeginsAt links) (to_of links) a path joined l has in
    slice_get_within links l.0 goes.link goes.is

-- ---- the function gives what the relation says

-- A path has at least two links, and at most one more than there are routers.
pub path-within : (links : List Link) (count : ℕ) → AreBelow links count → (a b : NiId)
    (path : List LinkId) → IsPath links a b path
    → (2 ≤ length path) × (length path ≤ count + 1)
path-within links count below a b path is =
    let one_more = joins-length links (Ni a) is.routers (Ni b) path is.joins in
    let some = is.some in
    let few = length-distinct_routers links count below (Ni a) is.routers (Ni b) path is.joins
    is.distinct in
    (omega arith, omega arith)

-- The least number of links by the function is that of the relation.
distance-least : (links : List Link) (count : ℕ) → AreBelow links count → (a b : NiId)
    → IsDistance links a b (below (count + 2) (least_below (has_path links a b) (count + 2)))
unfolding has_path
distance-least links count are_below a b =
    least-is links (IsPath links a b) (is_path_between links a b)
    (is_path_between-Decides links a b)
    (λ path is. joined-within links (Ni a) path is.joins.joined) (count + 2)
    (λ path is. let most = (path-within links count are_below a b path is).1 in omega arith)

-- There is one least number of links at most.
pub IsLeast-unique : (P : List LinkId → Type 0) (x y : Option ℕ) → IsLeast P x → IsLeast P y
    → x ≡ y
IsLeast-unique P (Some m) (Some n) first second =
    let up = first.none_shorter second.path second.has in
    let down = second.none_shorter first.path first.has in
    let first_long = first.length_is in
    let second_long = second.length_is in
    let same : m ≡ n = omega arith in
    ap Some same
IsLeast-unique P (Some m) None first second = absurd (second first.path first.has)
IsLeast-unique P None (Some n) first second = absurd (first second.path second.has)
IsLeast-unique P None None first second = refl

-- For each chip, `least_distance` gives the least number of links.
pub least_distance_is_distance : (chip : ChipData) → IsChip chip → (a b : NiId)
    → IsDistance chip.links a b (least_distance chip a b)
unfolding least_distance
least_distance_is_distance chip is_chip a b =
    distance-least chip.links (length chip.routers)
    (λ l link is. node_below chip.routers chip.nis link.to (is_chip.links l link is).to) a b

-- A least number of links is what `least_distance` gives.
pub distance_is_least_distance : (chip : ChipData) → IsChip chip → (a b : NiId)
    (least : Option ℕ) → IsDistance chip.links a b least → least ≡ least_distance chip a b
distance_is_least_distance chip is_chip a b least distance =
    IsLeast-unique (IsPath chip.links a b) least (least_distance chip a b) distance
    (least_distance_is_distance chip is_chip a b)
