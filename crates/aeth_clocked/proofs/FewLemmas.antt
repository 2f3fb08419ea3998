-- Chosen numbers are no more than those below a count that pass a test which they pass.
use Rattle.std.proofs.Common.{◌≡◌, ◌≤◌, ◌∙◌, ℕ, suc, refl, sym, ap, inl, inr, arith, Bool, true}
use Rattle.std.proofs.Common.{eqb, List, [], ◌∷◌, Some, length, count_by, filter, slice_get}
use Rattle.std.proofs.Common.{eqb-true, eq-eqb}
use Rattle.std.proofs.lemmas.{Bool.cases_Bool, List.Sums.length-filter}
use Rattle.std.proofs.lemmas.{Map.Made.length-le_from_is_member, List.Folds.list_any_at}
use Rattle.std.specs.{List.list_any, List.range_with_len, Cmp.nat_eq_equiv}
use Rattle.aeth_base.proofs.Ranges.{Contains-range}
use Rattle.aeth_clocked.{specs.Order.AreChosen, proofs.OrderLemmas.AreChosen-below-at}

-- A number that is among some and passes a test is among those that pass it.
any-filter : (test : ℕ → Bool) (q : ℕ) (xs : List ℕ) → test q ≡ true
    → list_any (eqb q) xs ≡ true → list_any (eqb q) (filter test xs) ≡ true
any-filter test q [] passes is = absurd (cc is)
any-filter test q (x ∷ xs) passes is = elim (cases_Bool (eqb q x)) [
  | inl same ↦
      let here : test x ≡ true = ap test (sym (eqb-true q x same)) ∙ passes in
      rw (here, same) refl
  | inr other ↦
      let rest = any-filter test q xs passes (rw other at is) in
      elim (cases_Bool (test x)) [
        | inl passed ↦ rw (passed, other) rest
        | inr left ↦ rw left rest
      ]
]

-- It stands at a place.
place-of : (q : ℕ) (xs : List ℕ) → list_any (eqb q) xs ≡ true
    → (place : ℕ) × (slice_get xs place ≡ Some q)
place-of q [] is = absurd (cc is)
place-of q (x ∷ xs) is = elim (cases_Bool (eqb q x)) [
  | inl same ↦ (0, ap (λ (n : ℕ). Some n) (sym (eqb-true q x same)))
  | inr other ↦ let rest = place-of q xs (rw other at is) in (suc rest.0, rest.1)
]

pub chosen-few : (test : ℕ → Bool) (numbers : List ℕ) (n : ℕ) → AreChosen n numbers
    → ((place number : ℕ) → slice_get numbers place ≡ Some number → test number ≡ true)
    → length numbers ≤ count_by test (range_with_len 0 n)
chosen-few test numbers n chosen pass =
    let range = range_with_len 0 n in
    let few = length-le_from_is_member nat_eq_equiv numbers (filter test range) chosen.distinct
    (λ q member.
    let found = place-of q numbers member in
    let below = AreChosen-below-at n numbers chosen found.0 q found.1 in
    let at = Contains-range 0 n q (omega arith) (omega (arith, below)) in
    any-filter test q range (pass found.0 q found.1)
    (list_any_at (eqb q) range at.0 q at.1 (rw at.2 (eq-eqb q q refl)))) in
    let size = length-filter test range in
    omega (arith, few, size)
