-- Lists each of whose items is so related to all behind it, under `++`, `map`, `filter` and
-- `flat_map`.
use Rattle.std.proofs.Common.{◌≡◌, ◌<◌, ◌+◌, ◌++◌, ℕ, zero, suc, Bool, true, false, cond, List, []}
use Rattle.std.proofs.Common.{◌∷◌, Contains, map, filter, sym, inl, inr, ◌≤◌, subst, arith}
use Rattle.std.proofs.lemmas.List.Elements.{Contains-append_cases}
use Rattle.std.proofs.lemmas.Option.{get_or_from_slice_get, none-some, same_Some, slice_get_within}
use Rattle.std.specs.List.{flat_map, range_with_len}
use Rattle.aeth_base.proofs.Members.{Contains-cases, Contains-here, Contains-nil, Contains-there}
use Rattle.aeth_base.proofs.Members.{filter-Contains, flat_map-Contains, map-Contains}
use Rattle.aeth_text.specs.Order.{Rises, RisesAfter}
use Rattle.aeth_plan.specs.Accepted.{NoTwo}

-- Each item of the list is so related to each behind it.
abbrev pub Ordered : {X : Type 0} → (X → X → Type 0) → List X → Type 0
Ordered Related [] = Unit {0}
Ordered {X} Related (x ∷ xs) =
    ((y : X) → Contains xs y → Related x y) × Ordered Related xs

module _ {X : Type 0} (Related : X → X → Type 0) where
  -- A list behind another, to whose items all of the first are related.
  pub ordered-append : (xs ys : List X) → Ordered Related xs → Ordered Related ys
      → ((x y : X) → Contains xs x → Contains ys y → Related x y) → Ordered Related (xs ++ ys)
  ordered-append [] ys one two across = two
  ordered-append (x ∷ xs) ys one two across = (
    (λ y has. elim (Contains-append_cases xs ys y has) [
      | inl before ↦ one.0 y before
      | inr behind ↦ across x y (Contains-here x xs) behind
    ]),
    ordered-append xs ys one.1 two (λ a b has. across a b (Contains-there x xs a has)),
  )

  -- The items that pass a test.
  pub ordered-filter : (test : X → Bool) (xs : List X) → Ordered Related xs
      → Ordered Related (filter test xs)
  ordered-filter test [] is = tt
  ordered-filter test (x ∷ xs) is =
      let rest = ordered-filter test xs is.1 in
      let cases : (b : Bool) → Ordered Related (cond b (x ∷ filter test xs) (filter test xs)) =
      elim [
        | true ↦ ((λ y has. is.0 y (filter-Contains test xs y has).0), rest)
        | false ↦ rest
      ]
      in cases (test x)

  -- The lists that come from the items of an ordered list.
  pub ordered-flat_map : {Y : Type 0} (Behind : Y → Y → Type 0) (f : Y → List X) (ys : List Y)
      → Ordered Behind ys → ((y : Y) → Contains ys y → Ordered Related (f y))
      → ((y z : Y) (a b : X) → Behind y z → Contains (f y) a → Contains (f z) b → Related a b)
      → Ordered Related (flat_map f ys)
  ordered-flat_map Behind f [] is each across = tt
  ordered-flat_map Behind f (y ∷ ys) is each across =
      ordered-append (f y) (flat_map f ys) (each y (Contains-here y ys))
      (ordered-flat_map Behind f ys is.1 (λ z has. each z (Contains-there y ys z has)) across)
      (λ a b here later.
      let (z, among, inside) = flat_map-Contains f ys b later in
      across y z a b (is.0 z among) here inside)

  -- The images of the items of an ordered list.
  pub ordered-map : {Y : Type 0} (Behind : Y → Y → Type 0) (f : Y → X) (ys : List Y)
      → Ordered Behind ys → ((y z : Y) → Behind y z → Related (f y) (f z))
      → Ordered Related (map f ys)
  ordered-map Behind f [] is across = tt
  ordered-map Behind f (y ∷ ys) is across = (
    (λ b has. let (z, same, among) = map-Contains f ys b has in
        subst (Related (f y)) same (across y z (is.0 z among))),
    ordered-map Behind f ys is.1 across,
  )

  -- What follows from being in the list and so related.
  pub ordered-weaker : (Weaker : X → X → Type 0) (xs : List X) → Ordered Related xs
      → ((x y : X) → Contains xs x → Contains xs y → Related x y → Weaker x y)
      → Ordered Weaker xs
  ordered-weaker Weaker [] is weaker = tt
  ordered-weaker Weaker (x ∷ xs) is weaker = (
    (λ y has. weaker x y (Contains-here x xs) (Contains-there x xs y has) (is.0 y has)),
    ordered-weaker Weaker xs is.1 (λ a b has has'.
        weaker a b (Contains-there x xs a has) (Contains-there x xs b has')),
  )

  -- No two items of a list are related where none is to one behind it.
  pub no_two-ordered : (xs : List X) → Ordered (λ x y. Related x y → ⊥) xs → NoTwo Related xs
  no_two-ordered [] is i j a b less at_i at_j related = none-some a at_i
  no_two-ordered (x ∷ xs) is zero zero a b less at_i at_j related = absurd (omega arith)
  no_two-ordered (x ∷ xs) is zero (suc j) a b less at_i at_j related =
      let same : x ≡ a = same_Some x a at_i in
      is.0 b (j, slice_get_within xs j b at_j, get_or_from_slice_get xs j b b at_j)
      (subst (λ c. Related c b) (sym same) related)
  no_two-ordered (x ∷ xs) is (suc i) zero a b less at_i at_j related = absurd (omega arith)
  no_two-ordered (x ∷ xs) is (suc i) (suc j) a b less at_i at_j related =
      no_two-ordered xs is.1 i j a b (omega arith) at_i at_j related

range-from : (start size n : ℕ) → Contains (range_with_len start size) n → start ≤ n
range-from start zero n has = Contains-nil has
range-from start (suc size) n has =
    elim (Contains-cases start (range_with_len (start + 1) size) n has) [
      | inl same ↦ omega arith
      | inr later ↦ let least = range-from (start + 1) size n later in omega arith
    ]

-- The numbers from a first one on are in order.
pub ordered-range : (start size : ℕ) → Ordered (λ a b. a < b) (range_with_len start size)
ordered-range start zero = tt
ordered-range start (suc size) = (
  (λ n has. let least = range-from (start + 1) size n has in omega arith),
  ordered-range (start + 1) size,
)

rises-after : {X : Type 0} (before : X → X → Bool) (last : X) (xs : List X)
    → ((x : X) → Contains xs x → before last x ≡ true) → Ordered (λ a b. before a b ≡ true) xs
    → RisesAfter before last xs
rises-after before last [] first is = tt
rises-after before last (x ∷ xs) first is =
    (first x (Contains-here x xs), rises-after before x xs is.0 is.1)

-- A list in which each item comes before all behind it rises.
pub rises-ordered : {X : Type 0} (before : X → X → Bool) (xs : List X)
    → Ordered (λ a b. before a b ≡ true) xs → Rises before xs
rises-ordered before [] is = tt
rises-ordered before (x ∷ xs) is = rises-after before x xs is.0 is.1
