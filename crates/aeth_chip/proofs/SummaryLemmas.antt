-- Laws of the summary of a chip: what one more interface adds, what a loop over all pairs keeps,
-- and how many pairs have no path at most.
use Rattle.std.proofs.Common.{◌≡◌, ◌∙◌, ◌+◌, ◌*◌, ◌<◌, ◌≤◌, ◌++◌, ℕ, zero, suc, cond, max, List, []}
use Rattle.std.proofs.Common.{◌∷◌, Option, Some, None, length, sym, ap, subst, add-one}
use Rattle.std.proofs.Common.{append_assoc, length-append, arith, count_by, fold, filter_map}
use Rattle.std.proofs.Common.{flat_map, slice_get, append-nil}
use Rattle.std.proofs.lemmas.List.{flat_map_more, length-map, Elements.filter_map-append}
use Rattle.std.proofs.lemmas.List.{FromFn.length-range_with_len, FromFn.map-range_with_len_more}
use Rattle.std.proofs.lemmas.List.{Sums.count_by-le-length, Sums.fold-append}
use Rattle.std.proofs.Math.Nat.{mul-le-mul}
use Rattle.std.specs.{List.range_with_len, Option.is_none}
use Rattle.aeth_base.{proofs.Ranges.range_with_len-more, specs.declared.ids.NiId.NiId}
use Rattle.aeth_chip.specs.{declared.chip.TheConstants.MAX_NIS, Chip.ChipData, Chip.IsChip}
use Rattle.aeth_chip.specs.{Distances.entry_in, LeastDistance.least_distance, Levels.AreLevels}
use Rattle.aeth_chip.specs.{Levels.AreOrigins, Levels.HasLinkStep, Levels.IsOrigin}
use Rattle.aeth_chip.specs.{Limits.max_places, Paths.IsDistance, Summary.distances_to}
use Rattle.aeth_chip.specs.{Summary.distances_among, Summary.distances_of, Summary.greatest_of}
use Rattle.aeth_chip.specs.{Summary.far_of, Summary.unreached_of}
use Rattle.aeth_chip.proofs.DistanceLemmas.{levels_by, row_between}
use Rattle.aeth_chip.proofs.LeastDistanceLemmas.{distance_is_least_distance}
use Rattle.aeth_chip.proofs.OriginLemmas.{links_placed}

-- One more number that is there.
pub greatest_of-some : (numbers : List (Option ℕ)) (number : ℕ)
    → greatest_of (numbers ++ Some number ∷ []) ≡ max (greatest_of numbers) number
greatest_of-some numbers number =
    ap (fold max 0) (filter_map-append (λ n. n) numbers (Some number ∷ []))
    ∙ fold-append max 0 (filter_map (λ n. n) numbers) (number ∷ [])

-- One more number that is missing.
pub greatest_of-none : (numbers : List (Option ℕ))
    → greatest_of (numbers ++ None ∷ []) ≡ greatest_of numbers
greatest_of-none numbers =
    ap (fold max 0) (filter_map-append (λ n. n) numbers (None ∷ []))
    ∙ fold-append max 0 (filter_map (λ n. n) numbers) []

-- One more that is there, among those that are missing.
pub count_missing-some : (numbers : List (Option ℕ)) (number : ℕ)
    → count_by is_none (numbers ++ Some number ∷ []) ≡ count_by is_none numbers
count_missing-some numbers number =
    let one_more : count_by is_none (numbers ++ Some number ∷ []) ≡ count_by is_none numbers + 0 =
    fold-append (λ missing n. missing + cond (is_none n) 1 0) 0 numbers (Some number ∷ []) in
    omega arith

-- One more that is missing.
pub count_missing-none : (numbers : List (Option ℕ))
    → count_by is_none (numbers ++ None ∷ []) ≡ count_by is_none numbers + 1
count_missing-none numbers =
    fold-append (λ missing n. missing + cond (is_none n) 1 0) 0 numbers (None ∷ [])

-- One more interface to come from.
pub distances_to-more : (chip : ChipData) (b count : ℕ)
    → distances_to chip b (count + 1)
    ≡ distances_to chip b count
    ++ least_distance chip (record { 0 = count }) (record { 0 = b }) ∷ []
distances_to-more chip b count =
    map-range_with_len_more (λ a. least_distance chip (record { 0 = a }) (record { 0 = b })) 0 count
    count (omega arith)

-- One more interface to go to.
pub distances_among-more : (chip : ChipData) (count : ℕ)
    → distances_among chip (count + 1)
    ≡ distances_among chip count ++ distances_to chip count (length chip.nis)
distances_among-more chip count =
    let row : ℕ → List (Option ℕ) = λ b. distances_to chip b (length chip.nis) in
    ap (λ n. flat_map row (range_with_len 0 n)) (add-one count)
    ∙ ap (flat_map row) (range_with_len-more 0 count count (omega arith))
    ∙ sym (flat_map_more row [] (range_with_len 0 count) count)

-- A row has a number for each interface.
pub length-distances_to : (chip : ChipData) (b count : ℕ)
    → length (distances_to chip b count) ≡ count
length-distances_to chip b count =
    length-map (range_with_len 0 count)
    (λ a. least_distance chip (record { 0 = a }) (record { 0 = b }))
    ∙ length-range_with_len 0 count

-- So many rows have as many numbers as so many times the interfaces.
pub length-distances_among : (chip : ChipData) (count : ℕ)
    → length (distances_among chip count) ≡ count * length chip.nis
length-distances_among chip zero = omega arith
length-distances_among chip (suc count) =
    let before = length-distances_among chip count in
    let row = length-distances_to chip count (length chip.nis) in
    let more = ap length (ap (distances_among chip) (sym (add-one count))
    ∙ distances_among-more chip count) in
    let both = length-append (distances_among chip count)
    (distances_to chip count (length chip.nis)) in
    omega arith

-- ---- what a loop over all pairs keeps

-- The pairs that come before one: those to an earlier interface, and those to the same one from
-- an earlier.
abbrev pub distances_before : ChipData → ℕ → ℕ → List (Option ℕ)
distances_before chip b a = distances_among chip b ++ distances_to chip b a

-- The summary of the pairs before one.
pub record IsSummaryBefore (chip : ChipData) (b a far unreached : ℕ) : Type 0 where
  pub far_is : far ≡ greatest_of (distances_before chip b a)
  pub unreached_is : unreached ≡ count_by is_none (distances_before chip b a)

-- One more pair.
distances_before-more : (chip : ChipData) (b a : ℕ) (least : Option ℕ)
    → least ≡ least_distance chip (record { 0 = a }) (record { 0 = b })
    → distances_before chip b (a + 1) ≡ distances_before chip b a ++ least ∷ []
distances_before-more chip b a least is =
    ap (λ row. distances_among chip b ++ row) (distances_to-more chip b a)
    ∙ sym (append_assoc (distances_among chip b) (distances_to chip b a)
    (least_distance chip (record { 0 = a }) (record { 0 = b }) ∷ []))
    ∙ ap (λ o. distances_before chip b a ++ o ∷ []) (sym is)

-- One more pair, with a path.
pub summary-some : (chip : ChipData) (b a far unreached least new_far new_unreached : ℕ)
    → IsSummaryBefore chip b a far unreached
    → Some least ≡ least_distance chip (record { 0 = a }) (record { 0 = b })
    → new_far ≡ max far least → new_unreached ≡ unreached
    → IsSummaryBefore chip b (a + 1) new_far new_unreached
summary-some chip b a far unreached least new_far new_unreached before is farther kept =
    let more = distances_before-more chip b a (Some least) is in
    record {
      far_is = farther ∙ ap (λ n. max n least) before.far_is
          ∙ sym (greatest_of-some (distances_before chip b a) least)
          ∙ ap greatest_of (sym more);
      unreached_is = kept ∙ before.unreached_is
          ∙ sym (count_missing-some (distances_before chip b a) least)
          ∙ ap (count_by is_none) (sym more);
    }

-- One more pair, without.
pub summary-none : (chip : ChipData) (b a far unreached new_far new_unreached : ℕ)
    → IsSummaryBefore chip b a far unreached
    → None ≡ least_distance chip (record { 0 = a }) (record { 0 = b })
    → new_far ≡ far → new_unreached ≡ unreached + 1
    → IsSummaryBefore chip b (a + 1) new_far new_unreached
summary-none chip b a far unreached new_far new_unreached before is kept counted =
    let more = distances_before-more chip b a None is in
    record {
      far_is = kept ∙ before.far_is ∙ sym (greatest_of-none (distances_before chip b a))
          ∙ ap greatest_of (sym more);
      unreached_is = counted ∙ ap (λ n. n + 1) before.unreached_is
          ∙ sym (count_missing-none (distances_before chip b a))
          ∙ ap (count_by is_none) (sym more);
    }

-- All pairs to one more interface.
pub summary-row : (chip : ChipData) (b a far unreached : ℕ)
    → IsSummaryBefore chip b a far unreached → a ≡ length chip.nis
    → IsSummaryBefore chip (b + 1) 0 far unreached
summary-row chip b a far unreached before last =
    let same : distances_before chip b a ≡ distances_before chip (b + 1) 0 =
    ap (distances_before chip b) last
    ∙ sym (distances_among-more chip b) ∙ sym (append-nil (distances_among chip (b + 1))) in
    record {
      far_is = before.far_is ∙ ap greatest_of same;
      unreached_is = before.unreached_is ∙ ap (count_by is_none) same;
    }

-- A level before an interface of a chip is the least number of links.
pub level-least : (chip : ChipData) → IsChip chip → (origins : List ℕ)
    → AreOrigins chip.links (length chip.routers) max_places origins → (a b : NiId)
    → b.0 < length chip.nis → (levels : List (Option ℕ))
    → AreLevels (IsOrigin origins) (length chip.routers) (length chip.routers + b.0) max_places
    levels
    → (least : Option ℕ) → slice_get levels (length chip.routers + a.0) ≡ Some least
    → least ≡ least_distance chip a b
level-least chip is_chip origins are a b within levels found least at =
    let routers = length chip.routers in
    let few = is_chip.routers in
    let fewer = is_chip.nis in
    let row = levels_by (IsOrigin origins) (HasLinkStep chip.links routers) routers
    (routers + b.0) max_places levels are.only are.each found in
    let distance = row_between chip.links routers max_places
    (links_placed chip is_chip max_places (omega arith)) b levels row (omega arith) a in
    distance_is_least_distance chip is_chip a b least
    (subst (λ (o : Option (Option ℕ)). IsDistance chip.links a b (entry_in o)) at distance)

-- The summary of all pairs.
pub record IsSummary (chip : ChipData) (far unreached : ℕ) : Type 0 where
  pub far_is : far ≡ far_of chip
  pub unreached_is : unreached ≡ unreached_of chip

-- After the last pair.
pub summary-end : (chip : ChipData) (b far unreached : ℕ)
    → IsSummaryBefore chip b 0 far unreached → b ≡ length chip.nis
    → IsSummary chip far unreached
unfolding far_of unreached_of
summary-end chip b far unreached before last =
    let same : distances_before chip b 0 ≡ distances_of chip =
    append-nil (distances_among chip b) ∙ ap (distances_among chip) last in
    record {
      far_is = before.far_is ∙ ap greatest_of same;
      unreached_is = before.unreached_is ∙ ap (count_by is_none) same;
    }

-- So many pairs before one have no path at most.
pub summary-few : (chip : ChipData) (b a far unreached : ℕ)
    → IsSummaryBefore chip b a far unreached → length chip.nis ≤ MAX_NIS → b < length chip.nis
    → a < length chip.nis → unreached < MAX_NIS * MAX_NIS
summary-few chip b a far unreached before few row column =
    let is = before.unreached_is in
    let missing = count_by-le-length is_none (distances_before chip b a) in
    let both = length-append (distances_among chip b) (distances_to chip b a) in
    let rows = length-distances_among chip b in
    let one = length-distances_to chip b a in
    let square : suc b * length chip.nis ≤ MAX_NIS * MAX_NIS =
    mul-le-mul {n₁ = suc b} {m₁ = length chip.nis} {n₂ = MAX_NIS} {m₂ = MAX_NIS} (omega arith)
    few in
    omega arith
