-- Units in their own order, the first last: the first that passes a test, and one taken out.
use Rattle.std.proofs.Common.{◌≡◌, ◌<◌, ◌≤◌, ◌-◌, ◌∙◌, ℕ, Bool, true, false, List, ◌∷◌, Contains}
use Rattle.std.proofs.Common.{Some, None, sym, ap, inl, inr, arith, get_or, length}
use Rattle.std.proofs.lemmas.Bool.{cases_eq, cases_lt}
use Rattle.std.proofs.lemmas.List.{get_or_default}
use Rattle.std.proofs.lemmas.List.Sorted.{Contains-permutation, IsPermutation-remove}
use Rattle.std.proofs.lemmas.List.Sorted.{IsStrictWeakOrder-flip, ranks_by, sorted_far}
use Rattle.std.specs.List.{remove, Sorted.IsPermutation, Sorted.IsSortedBy}
use Rattle.std.specs.Ordering.{is_lt, ordering_reverse}
use Rattle.std.specs.declared.cmp.Ordering.{Ordering}
use Rattle.std.specs.declared.cmp.Ordering.TheVariants.{Less, Equal, Greater}
use Rattle.aeth_base.{specs.declared.ids.Unit.Unit as GroupUnit, proofs.Members.Contains-cases}
use Rattle.aeth_order.specs.{declared.keys.UnitKeys.UnitKeys, Grid.Falls, Grid.IsFound, Grid.nobody}
use Rattle.aeth_order.specs.{Order.unit_order, Units.is_unit}
use Rattle.aeth_order.proofs.{FirstByLemmas.IsAfter, TurnLemmas.itself, TurnLemmas.unit_total}

-- A list that is sorted backwards falls.
pub falls-sorted : (units : List UnitKeys) → IsSortedBy (λ a b. is_lt (unit_order b a)) units
    → Falls units
falls-sorted units sorted = λ i j d less within.
    sorted_far (λ a b. is_lt (unit_order b a))
    (IsStrictWeakOrder-flip (λ a b. is_lt (unit_order a b)) (ranks_by unit_total (λ a. a)))
    units sorted i j d (omega (arith, less)) within

-- A unit isn't before itself.
not-itself : (m : UnitKeys) → is_lt (unit_order m m) ≡ false
not-itself m = ap is_lt (itself (unit_order m m) (unit_total.antisymm m m))

-- What isn't before a unit is it, or comes after it, where units that aren't told apart are one.
pub not-earlier : (m a : UnitKeys) (o : Ordering) → unit_order a m ≡ o → is_lt o ≡ false
    → (unit_order a m ≡ Equal → a ≡ m) → IsAfter unit_order m a
not-earlier m a Less is later told = cc later
not-earlier m a Equal is later told = inl (told is)
not-earlier m a Greater is later told =
    inr (unit_total.antisymm m a ∙ ap ordering_reverse is)

-- ---- the first that passes a test, sought from the end

module _ (test : UnitKeys → Bool) (order : List UnitKeys) where
  -- All from a place on fail.
  abbrev pub FailFrom : ℕ → Type 0
  FailFrom left = (k : ℕ) (d : UnitKeys) → left ≤ k → k < length order
      → test (get_or order k d) ≡ false

  -- One more fails.
  pub fail-more : (left : ℕ) → 0 < left → left ≤ length order
      → test (get_or order (left - 1) nobody) ≡ false → FailFrom left → FailFrom (left - 1)
  fail-more left some within fails rest = λ k d low below. elim (cases_eq k (left - 1)) [
    | inl here ↦
        ap (λ i. test (get_or order i d)) here
        ∙ ap test (get_or_default order (left - 1) d nobody (omega (arith, some, within))) ∙ fails
    | inr other ↦ rest k d (omega (arith, low, other, some)) below
  ]

  -- None passes.
  pub found-none : FailFrom 0 → IsFound test order None
  found-none rest = λ a has.
      let (k, within, here) = has in
      ap test (sym here) ∙ rest k a (omega arith) within

  -- The first from the end that passes is the first of all that pass.
  pub found-here : Falls order → (left : ℕ) → 0 < left → left ≤ length order
      → test (get_or order (left - 1) nobody) ≡ true → FailFrom left
      → IsFound test order (Some (get_or order (left - 1) nobody))
  found-here falls left some within passes rest =
      let at : ℕ = left - 1 in
      let low : at < length order = omega (arith, some, within) in
      let m : UnitKeys = get_or order at nobody in (
        (at, low, get_or_default order at m nobody low),
        (
          passes,
          λ a has too.
              let (k, below, here) = has in
              let there : get_or order at a ≡ m = get_or_default order at a nobody low in
              elim (cases_lt k at) [
                | inl less ↦
                    ap (λ b. is_lt (unit_order b m)) (sym here)
                    ∙ ap (λ b. is_lt (unit_order (get_or order k a) b)) (sym there)
                    ∙ falls k at a less low
                | inr past ↦ elim (cases_eq k at) [
                  | inl same ↦
                      ap (λ b. is_lt (unit_order b m))
                      (sym here ∙ ap (λ i. get_or order i a) same ∙ there) ∙ not-itself m
                  | inr other ↦
                      let wrong : true ≡ false = sym too ∙ ap test (sym here)
                      ∙ rest k a (omega (arith, past, other, some)) below in
                      cc wrong
                ]
              ],
        ),
      )

-- ---- a unit is taken out

module _ (unit : GroupUnit) (order : List UnitKeys) (at : ℕ) (within : at < length order) where
  abbrev one : UnitKeys
  one = get_or order at nobody

  apart : IsPermutation order (one ∷ remove order at)
  apart = IsPermutation-remove order at one within
      (sym (get_or_default order at one nobody within))

  pub others-remove : is_unit unit one ≡ true → (a : UnitKeys) → Contains order a
      → is_unit unit a ≡ false → Contains (remove order at) a
  others-remove here a has other =
      elim (Contains-cases one (remove order at) a
      (Contains-permutation order (one ∷ remove order at) a apart has)) [
        | inl same ↦
            let wrong : true ≡ false = sym here ∙ ap (is_unit unit) same ∙ other in
            cc wrong
        | inr later ↦ later
      ]
