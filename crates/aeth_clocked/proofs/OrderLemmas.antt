-- Laws of orders: each number below the length stands in an order, once, and no other does.
use Rattle.std.proofs.Common.{ℕ, ◌+◌, ◌-◌, ◌%◌, ◌^◌, ◌<◌, ◌≡◌, refl, sym, ◌∙◌, inl, inr, arith}
use Rattle.std.proofs.Common.{true, eqb, List, length, Some, slice_get, eqb-true, eq-eqb}
use Rattle.std.proofs.Math.Nat.{mod-lt, mod-eq_of_lt, mod-add-mod, add-mod_right}
use Rattle.std.proofs.lemmas.Bool.{cases_lt, Decides.nat_tests}
use Rattle.std.proofs.lemmas.List.FromFn.{length-range_with_len, get_or-range_with_len}
use Rattle.std.proofs.lemmas.List.FromFn.{length-map-range_with_len, get_or-map-range_with_len}
use Rattle.std.proofs.lemmas.List.Sorted.{All-permutation, Contains-permutation}
use Rattle.std.proofs.lemmas.List.Folds.{list_any_at}
use Rattle.std.proofs.lemmas.Map.Views.{Contains-from_any}
use Rattle.std.proofs.lemmas.Map.Keys.{IsDistinct-from_apart, IsDistinct-IsPermutation}
use Rattle.std.proofs.lemmas.Option.{slice_get_within, get_or_from_slice_get}
use Rattle.std.specs.List.{range_with_len, All, Contains, IsDistinct, list_any}
use Rattle.aeth_clocked.specs.Order.{AreChosen, IsOrder, rotation_of}
use Rattle.aeth_base.proofs.Permutations.{IsPermutation-from_all}
use Rattle.aeth_base.proofs.Ranges.{All-range, Contains-range}

module _ (numbers : List ℕ) (order : IsOrder numbers) where
  -- An order has each number below its length.
  pub IsOrder-contains : (i : ℕ) → i < length numbers → Contains numbers i
  IsOrder-contains i below =
      let n = length numbers in
      Contains-permutation (range_with_len 0 n) numbers i order.permutes (Contains-range 0 n i (omega arith) (omega arith))

  -- So the test for such a number passes.
  pub IsOrder-passes : (i : ℕ) → i < length numbers
      → list_any (λ number. eqb number i) numbers ≡ true
  IsOrder-passes i below =
      let at = IsOrder-contains i below in
      list_any_at (λ number. eqb number i) numbers at.0 i at.1 (rw at.2 (eq-eqb i i refl))

  -- An order has no other number.
  pub IsOrder-below : All (λ number. number < length numbers) numbers
  IsOrder-below =
      let n = length numbers in
      All-permutation (λ i. i < n) (range_with_len 0 n) numbers order.permutes (All-range n)

  -- An order has no number twice.
  pub IsOrder-distinct : IsDistinct eqb numbers
  IsOrder-distinct =
      let range = range_with_len 0 (length numbers) in
      IsDistinct-IsPermutation eqb (λ i j. grind (arith, nat_tests)) range numbers order.permutes
      (IsDistinct-from_apart eqb range (λ i j default before within.
      let size = length-range_with_len 0 (length numbers) in
      let low = get_or-range_with_len 0 (length numbers) i default in
      let high = get_or-range_with_len 0 (length numbers) j default in
      grind (arith, nat_tests)))

  -- All components take a turn.
  pub AreChosen-order : AreChosen (length numbers) numbers
  AreChosen-order = record { distinct = IsOrder-distinct; below = IsOrder-below }

-- Of chosen numbers the one at a place is below the count.
pub AreChosen-below-at : (count : ℕ) (numbers : List ℕ) → AreChosen count numbers
    → (place number : ℕ) → slice_get numbers place ≡ Some number → number < count
AreChosen-below-at count numbers chosen place number at =
    let within = slice_get_within numbers place number at in
    let is = get_or_from_slice_get numbers place number number at in
    omega (arith, chosen.below place number within)

-- Where the test for each number below the length passes, there is an order.
pub IsOrder-from_passes : (numbers : List ℕ) → length numbers < 2 ^ 32
    → ((i : ℕ) → i < length numbers → list_any (λ number. eqb number i) numbers ≡ true)
    → IsOrder numbers
IsOrder-from_passes numbers short passes =
    record {
      short = short;
      permutes = IsPermutation-from_all (length numbers) numbers refl (λ i below.
          Contains-from_any {eq = λ number other. eqb other number}
          (λ number other same. sym (eqb-true other number same)) i numbers (passes i below));
    }

-- A rotation comes to each number.
rotation_reaches : (count turn i : ℕ) → 0 < count → i < count
    → (place : ℕ) × (place < count) × ((turn + place) % count ≡ i)
rotation_reaches count turn i some below =
    let first = turn % count in
    let first_below = mod-lt turn some in
    let itself = mod-eq_of_lt below in
    elim (cases_lt i first) [
      | inl before ↦
          let place = i + count - first in
          let round : first + place ≡ i + count = omega arith in
          let at = rw round at (mod-add-mod turn count place) in
          (place, omega arith, sym at ∙ add-mod_right i count ∙ itself)
      | inr after ↦
          let place = i - first in
          let onward : first + place ≡ i = omega arith in
          let at = rw onward at (mod-add-mod turn count place) in
          (place, omega arith, sym at ∙ itself)
    ]

-- A rotation is an order.
pub IsOrder-rotation_of : (count turn : ℕ) → count < 2 ^ 32 → 0 < count
    → IsOrder (rotation_of count turn)
IsOrder-rotation_of count turn short some =
    let numbers = rotation_of count turn in
    let number_at = λ (place : ℕ). (turn + place) % count in
    let size : length numbers ≡ count = length-map-range_with_len number_at 0 count in
    let permutes = IsPermutation-from_all count numbers size (λ i below.
    let reached = rotation_reaches count turn i some below in
    let place = reached.0 in
    let at = get_or-map-range_with_len number_at 0 count place place i reached.1 (omega arith) in
    (place, omega (arith, reached.1), at ∙ reached.2)) in
    record { short = omega arith; permutes = rw size permutes }
