-- Grants in a plan's order: what a sort by keys gives.
use Rattle.std.proofs.Common.{◌≡◌, ◌∙◌, ℕ, suc, ◌+◌, ◌<◌, Bool, true, false, cond, not, ◌&&◌, List}
use Rattle.std.proofs.Common.{[], ◌∷◌, length, get_or, refl, sym, ap, arith, true≢false, AllPairs}
use Rattle.std.proofs.Common.{nat_lt, ◌==◌}
use Rattle.std.proofs.Math.Numerals.{add-one}
use Rattle.std.proofs.lemmas.Bool.{and_parts, not-true, Decides.nat_tests}
use Rattle.std.proofs.lemmas.Map.Keys.{IsDistinct-IsPermutation, IsDistinct-from_apart}
use Rattle.std.proofs.lemmas.Map.Keys.{apart_from_distinct}
use Rattle.std.specs.List.{IsDistinct}
use Rattle.std.specs.List.Sorted.{IsPermutation, IsSortedBy, IsSortedByKey, ties}
use Rattle.std.specs.declared.cmp.Ordering.{Ordering}
use Rattle.std.specs.declared.cmp.Ordering.TheVariants.{Less, Equal, Greater}
use Rattle.std.specs.Ordering.{is_lt, ordering_then}
use Rattle.aeth_base.specs.declared.ids.Side.{Side, TheVariants.Fwd, TheVariants.Back}
use Rattle.aeth_base.specs.declared.ids.Unit.{Unit as GroupUnit}
use Rattle.aeth_group.specs.declared.grant.Grant.{Grant}
use Rattle.aeth_text.specs.Order.{Rises, RisesAfter}
use Rattle.aeth_plan.specs.{Making.AreApart, Plan.grant_before, Plan.side_before}
use Rattle.aeth_base.specs.contracts.ids.SideOrd.TheImpl as side_ord
use Rattle.aeth_base.specs.contracts.ids.UnitOrd.TheImpl as unit_ord

-- The key of a grant.
abbrev pub key_of : Grant → GroupUnit × Side
key_of grant = (grant.unit, grant.side)

-- The order of keys.
abbrev pub key_cmp : GroupUnit × Side → GroupUnit × Side → Ordering
key_cmp x y = ordering_then ((unit_ord.ghosts).cmp x.0 y.0) ((side_ord.ghosts).cmp x.1 y.1)

-- Two numbers, two numbers and an order, by their tests.
by_tests : (b e c f : Bool) (o : Ordering) → (b ≡ true → e ≡ false) → (c ≡ true → f ≡ false)
    → is_lt (ordering_then (ordering_then (cond b Less (cond e Equal Greater))
    (cond c Less (cond f Equal Greater))) o) ≡ cond e (cond f (is_lt o) c) b
by_tests true true c f o one two = absurd (true≢false (one refl))
by_tests true false c f o one two = refl
by_tests false true true true o one two = absurd (true≢false (two refl))
by_tests false true true false o one two = refl
by_tests false true false true o one two = refl
by_tests false true false false o one two = refl
by_tests false false c f o one two = refl

less_differs : (m n : ℕ) → nat_lt m n ≡ true → (m == n) ≡ false
less_differs m n less = grind (arith, nat_tests)

-- The order of sides, as a test.
side_before-is : (s t : Side) → is_lt ((side_ord.ghosts).cmp s t) ≡ side_before s t
side_before-is Fwd Fwd = refl
side_before-is Fwd Back = refl
side_before-is Back Fwd = refl
side_before-is Back Back = refl

-- The order of keys is that of grants.
before-key : (a b : Grant) → is_lt (key_cmp (key_of a) (key_of b)) ≡ grant_before a b
before-key a b =
    let m = a.unit.conn.0 in
    let n = b.unit.conn.0 in
    let p = a.unit.group.0 in
    let q = b.unit.group.0 in
    by_tests (nat_lt m n) (m == n) (nat_lt p q) (p == q) ((side_ord.ghosts).cmp a.side b.side)
    (less_differs m n) (less_differs p q)
    ∙ ap (λ s. cond (m == n) (cond (p == q) s (nat_lt p q)) (nat_lt m n))
    (side_before-is a.side b.side)

-- Numbers of which neither is less are the same, and the next test decides.
level : (m n : ℕ) (p q : Bool) → cond (m == n) p (nat_lt m n) ≡ false
    → cond (n == m) q (nat_lt n m) ≡ false → (m ≡ n) × (p ≡ false) × (q ≡ false)
level m n p q = grind (arith, nat_tests)

level_sides : (s t : Side) → side_before s t ≡ false → side_before t s ≡ false → s ≡ t
level_sides Fwd Fwd one two = refl
level_sides Fwd Back one two = absurd (true≢false one)
level_sides Back Fwd one two = absurd (true≢false two)
level_sides Back Back one two = refl

-- Grants of which neither comes before the other are for one side of one unit.
level_grants : (a b : Grant) → grant_before a b ≡ false → grant_before b a ≡ false
    → (a.unit ≡ b.unit) × (a.side ≡ b.side)
level_grants a b one two =
    let conn = level a.unit.conn.0 b.unit.conn.0 _ _ one two in
    let group = level a.unit.group.0 b.unit.group.0 _ _ conn.1 conn.2 in
    let conns = conn.0 in
    let groups = group.0 in (
      (λ i. record { conn = record { 0 = conns i }; group = record { 0 = groups i } }),
      level_sides a.side b.side group.1 group.2,
    )

-- Other grants don't tie.
apart-ties : (a b : Grant) → AreApart a b → ties grant_before a b ≡ false
apart-ties a b apart =
    let cases : (t : Bool) → ties grant_before a b ≡ t → ties grant_before a b ≡ false = elim [
      | true ↦ λ is.
          let (one, two) = and_parts (not (grant_before a b)) _ is in
          let same = level_grants a b (not-true _ one) (not-true _ two) in
          absurd (apart same.0 same.1)
      | false ↦ λ is. is
    ]
    in cases (ties grant_before a b) refl

both_ways : (p q : Bool) → (not p && not q) ≡ (not q && not p)
both_ways true true = refl
both_ways true false = refl
both_ways false true = refl
both_ways false false = refl

untied : (p q : Bool) → q ≡ false → (not p && not q) ≡ false → p ≡ true
untied true q none apart = refl
untied false true none apart = absurd (true≢false none)
untied false false none apart = absurd (true≢false apart)

module _ {X : Type 0} (before : X → X → Bool) where
  rises_after : (last : X) (xs : List X) → ((k : ℕ) (d : X) → suc k < length (last ∷ xs)
      → before (get_or (last ∷ xs) k d) (get_or (last ∷ xs) (suc k) d) ≡ true)
      → RisesAfter before last xs
  rises_after last [] up = tt
  rises_after last (x ∷ xs) up = (
    up 0 x (omega arith),
    rises_after x xs (λ k d within. up (suc k) d (omega arith)),
  )

  -- Each item comes before the next.
  rises : (xs : List X) → ((k : ℕ) (d : X) → suc k < length xs
      → before (get_or xs k d) (get_or xs (suc k) d) ≡ true) → Rises before xs
  rises [] up = tt
  rises (x ∷ xs) up = rises_after x xs up

  -- A sorted list without ties rises.
  rises_sorted : (xs : List X) → IsSortedBy before xs → IsDistinct (ties before) xs
      → Rises before xs
  rises_sorted xs sorted distinct = rises xs (λ k d within.
      untied _ _ (ap (λ n. before (get_or xs n d) (get_or xs k d)) (sym (add-one k))
      ∙ sorted k d (omega arith) (omega arith))
      (apart_from_distinct (ties before) xs k (suc k) d distinct (omega arith) within))

-- Grants that stand apart rise once they are sorted by their keys.
pub rises_by_key : (xs ys : List Grant) → AllPairs AreApart xs → IsPermutation xs ys
    → IsSortedByKey key_of key_cmp ys → Rises grant_before ys
rises_by_key xs ys apart same sorted =
    rises_sorted grant_before ys
    (λ k d least within. sym (before-key (get_or ys (k + 1) d) (get_or ys k d))
    ∙ sorted k d least within)
    (IsDistinct-IsPermutation (ties grant_before)
    (λ a b. both_ways (grant_before a b) (grant_before b a)) xs ys same
    (IsDistinct-from_apart (ties grant_before) xs (λ i j d below within.
    apart-ties (get_or xs i d) (get_or xs j d) (apart i j d below within))))
