-- Lists that are given number by number: one number more, and lists whose items rise.
use Rattle.std.proofs.Common.{◌≡◌, ◌≤◌, ◌<◌, ◌+◌, ◌-◌, ◌++◌, ◌∙◌, ℕ, zero, suc, Bool, true, false}
use Rattle.std.proofs.Common.{cond, List, [], ◌∷◌, All, Contains, filter, get_or, length, take, sym}
use Rattle.std.proofs.Common.{ap, inl, inr, arith, add-one, flat_map, append-nil}
use Rattle.std.proofs.lemmas.{List.flat_map_more, List.take_more, List.Concat.flat_map-append}
use Rattle.std.proofs.lemmas.{List.Concat.flat_map-cons, List.Elements.Contains-append_cases}
use Rattle.std.proofs.lemmas.{List.Elements.filter-append, List.FromFn.get_or-range_with_len}
use Rattle.std.proofs.lemmas.{List.FromFn.length-range_with_len, Option.slice_get-get_or}
use Rattle.std.specs.List.{AllPairs, range_with_len}
use Rattle.aeth_base.proofs.Members.{Contains-here, Contains-slice_get, Contains-there}
use Rattle.aeth_base.proofs.Members.{flat_map-Contains}
use Rattle.aeth_base.proofs.Ranges.{range_with_len-more}
use Rattle.aeth_slots.{specs.SlotSet.Ascends, proofs.Ascending.Ascends-bounds}

-- What is given of the numbers from 0 on, and of the next one.
pub pushed_more : {X : Type 0} (f : ℕ → List X) (i : ℕ) (start out new : List X)
    → out ≡ start ++ flat_map f (range_with_len 0 i) → new ≡ out ++ f i
    → new ≡ start ++ flat_map f (range_with_len 0 (i + 1))
pushed_more {X} f i start out new so_far more =
    more ∙ ap (λ (xs : List X). xs ++ f i) so_far
    ∙ flat_map_more f start (range_with_len 0 i) i
    ∙ ap (λ (ns : List ℕ). start ++ flat_map f ns) (sym (ap (range_with_len 0) (add-one i)
    ∙ range_with_len-more 0 i i (omega arith)))

-- Of the numbers from 1 on, and of the next one.
pub from_one_more : {X : Type 0} (f : ℕ → List X) (i : ℕ) → 1 ≤ i
    → flat_map f (range_with_len 1 (i - 1)) ++ f i ≡ flat_map f (range_with_len 1 (i + 1 - 1))
from_one_more f i some =
    let next : i + 1 - 1 ≡ suc (i - 1) = omega arith in
    flat_map_more f [] (range_with_len 1 (i - 1)) i
    ∙ ap (flat_map f) (sym (ap (range_with_len 1) next
    ∙ range_with_len-more 1 (i - 1) i (omega arith)))

module _ {X Y : Type 0} (f : X → List Y) (test : X → Bool) (xs : List X) (i : ℕ) (x : X)
    (within : i < length xs) (at : x ≡ get_or xs i x) where
  -- What is given of those that pass, and of the next one.
  next_kept : flat_map f (filter test (take (i + 1) xs))
      ≡ flat_map f (filter test (take i xs)) ++ flat_map f (cond (test x) (x ∷ []) [])
  next_kept = ap (λ (zs : List X). flat_map f (filter test zs))
      (take_more xs i x within ∙ ap (λ (z : X). take i xs ++ z ∷ []) (sym at))
      ∙ ap (flat_map f) (filter-append test (take i xs) (x ∷ []))
      ∙ flat_map-append f (filter test (take i xs)) (cond (test x) (x ∷ []) [])

  -- Where it passes.
  pub kept_more : test x ≡ true → flat_map f (filter test (take i xs)) ++ f x
      ≡ flat_map f (filter test (take (i + 1) xs))
  kept_more passes = sym (next_kept
      ∙ ap (λ (b : Bool). flat_map f (filter test (take i xs)) ++ flat_map f (cond b (x ∷ []) [])) passes
      ∙ ap (λ (ys : List Y). flat_map f (filter test (take i xs)) ++ ys)
      (flat_map-cons f x [] ∙ append-nil (f x)))

  -- Where it doesn't.
  pub kept_same : test x ≡ false
      → flat_map f (filter test (take i xs)) ≡ flat_map f (filter test (take (i + 1) xs))
  kept_same fails = sym (next_kept
      ∙ ap (λ (b : Bool). flat_map f (filter test (take i xs)) ++ flat_map f (cond b (x ∷ []) [])) fails
      ∙ append-nil (flat_map f (filter test (take i xs))))

-- The numbers from a first one on.
pub range_bounds : (low size x : ℕ) → Contains (range_with_len low size) x
    → (low ≤ x) × (x < low + size)
range_bounds low size x (place, within, at) =
    let long = length-range_with_len low size in
    let inside : place < size = omega (arith, long, within) in
    let is = get_or-range_with_len low size place x inside in
    (omega (arith, is, at), omega (arith, is, at, inside))

-- Ascending numbers are below their bound.
pub all_below : (high : ℕ) (xs : List ℕ) → Ascends 0 high xs → All (λ x. x < high) xs
all_below high xs ascends k d within = (Ascends-bounds 0 high xs ascends (get_or xs k d)
    (Contains-slice_get xs k (get_or xs k d) (slice_get-get_or xs k d within))).1

module _ {X : Type 0} (Before : X → X → Type 0) where
  -- Each item comes before all behind it.
  abbrev pub Climbs : List X → Type 0
  Climbs [] = Unit {0}
  Climbs (x ∷ xs) = ((y : X) → Contains xs y → Before x y) × Climbs xs

  climbs-append : (xs ys : List X) → Climbs xs → Climbs ys
      → ((x y : X) → Contains xs x → Contains ys y → Before x y) → Climbs (xs ++ ys)
  climbs-append [] ys first second apart = second
  climbs-append (x ∷ xs) ys first second apart = (
    (λ y has. elim (Contains-append_cases xs ys y has) [
      | inl here ↦ first.0 y here
      | inr there ↦ apart x y (Contains-here x xs) there
    ]),
    climbs-append xs ys first.1 second
        (λ a b has_a has_b. apart a b (Contains-there x xs a has_a) has_b),
  )

  -- What numbers give rises where each gives what does, before what greater ones give.
  pub climbs-flat_map : (f : ℕ → List X) (low size : ℕ) → ((i : ℕ) → Climbs (f i))
      → ((i j : ℕ) (x y : X) → i < j → Contains (f i) x → Contains (f j) y → Before x y)
      → Climbs (flat_map f (range_with_len low size))
  climbs-flat_map f low zero each apart = tt
  climbs-flat_map f low (suc size) each apart =
      let rest = range_with_len (low + 1) size in
      rw (flat_map-cons f low rest) (climbs-append (f low) (flat_map f rest) (each low)
      (climbs-flat_map f (low + 1) size each apart)
      (λ x y has_x has_y.
      let (j, in_rest, here) = flat_map-Contains f rest y has_y in
      let bounds = range_bounds (low + 1) size j in_rest in
      apart low j x y (omega arith) has_x here))

  -- So of any two items the first comes before the second.
  pub pairs_rise : (xs : List X) → Climbs xs → AllPairs Before xs
  pairs_rise [] climbs i j d less within = absurd (omega arith)
  pairs_rise (x ∷ xs) climbs i zero d less within = absurd (omega arith)
  pairs_rise (x ∷ xs) climbs zero (suc j) d less within =
      climbs.0 (get_or xs j d)
      (Contains-slice_get xs j (get_or xs j d) (slice_get-get_or xs j d (omega arith)))
  pairs_rise (x ∷ xs) climbs (suc i) (suc j) d less within =
      pairs_rise xs climbs.1 i j d (omega arith) (omega arith)
