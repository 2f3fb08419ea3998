-- Rows whose cycles don't fall, and of these the ones up to a cycle: the first ones.
use Rattle.std.proofs.Common.{◌≡◌, ◌∙◌, ◌<◌, ◌≤◌, ◌+◌, ℕ, zero, suc, Bool, List, [], ◌∷◌, length}
use Rattle.std.proofs.Common.{take, filter, map, slice_get, Some, refl, sym, ap, arith, inl, inr}
use Rattle.std.proofs.Common.{nat_le, All, IfSome, le-leb, Ok}
use Rattle.std.proofs.lemmas.Bool.{cases_Bool, cases_lt, Decides.nat_tests}
use Rattle.std.proofs.lemmas.List.Elements.{All-cons, All-nil, All-filter, All-head, All-tail}
use Rattle.std.proofs.lemmas.List.Elements.{All-weaker}
use Rattle.std.proofs.lemmas.List.Sums.{length-filter, count_by-le-length}
use Rattle.std.proofs.lemmas.Option.{same_Some}
use Rattle.std.specs.List.Sorted.{IsNonDecreasingBy}
use Rattle.aeth_base.proofs.Members.{All-slice_get}
use Rattle.aeth_trace.specs.{Channels.rows_until, Rules.are_in_order}

-- The first isn't above the later ones.
pub first_least : {X : Type 0} (n : X → ℕ) (x : X) (xs : List X) → IsNonDecreasingBy n (x ∷ xs)
    → All (λ y. n x ≤ n y) xs
first_least n x xs rises = λ k d within. rises 0 (suc k) d (omega arith) (omega arith)

-- Those behind the first don't fall either.
pub later_rise : {X : Type 0} (n : X → ℕ) (x : X) (xs : List X) → IsNonDecreasingBy n (x ∷ xs)
    → IsNonDecreasingBy n xs
later_rise n x xs rises = λ i j d le within. rises (suc i) (suc j) d (omega arith) (omega arith)

-- One before others that aren't less.
pub rise-cons : {X : Type 0} (n : X → ℕ) (x : X) (xs : List X) → All (λ y. n x ≤ n y) xs
    → IsNonDecreasingBy n xs → IsNonDecreasingBy n (x ∷ xs)
rise-cons n x xs least rises zero zero d le within = omega arith
rise-cons n x xs least rises zero (suc j) d le within = least j d (omega arith)
rise-cons n x xs least rises (suc i) zero d le within = absurd (omega arith)
rise-cons n x xs least rises (suc i) (suc j) d le within = rises i j d (omega arith) (omega arith)

-- What a filter keeps doesn't fall either.
pub rise-filter : {X : Type 0} (n : X → ℕ) (test : X → Bool) (xs : List X)
    → IsNonDecreasingBy n xs → IsNonDecreasingBy n (filter test xs)
rise-filter n test [] rises = rises
rise-filter n test (x ∷ xs) rises =
    let later = rise-filter n test xs (later_rise n x xs rises) in
    elim (cases_Bool (test x)) [
      | inl passes ↦ rw passes
          (rise-cons n x (filter test xs)
          (All-filter test (λ y. n x ≤ n y) xs (first_least n x xs rises)) later)
      | inr fails ↦ rw fails later
    ]

-- None is up to a number below all.
none_up_to : {X : Type 0} (n : X → ℕ) (most : ℕ) (xs : List X) → All (λ y. most < n y) xs
    → rows_until n most xs ≡ []
none_up_to n most [] above = refl
none_up_to n most (x ∷ xs) above =
    let here : most < n x = All-head (λ y. most < n y) x xs above in
    let later = none_up_to n most xs (All-tail (λ y. most < n y) x xs above) in
    grind (arith, nat_tests)

-- An element is among those up to a number just where it is up to it.
pub until_at : {X : Type 0} (n : X → ℕ) (most : ℕ) (xs : List X) (k : ℕ) (x : X)
    → IsNonDecreasingBy n xs → slice_get xs k ≡ Some x
    → (n x ≤ most → k < length (rows_until n most xs)) × (most < n x → length (rows_until n most xs) ≤ k)
until_at n most [] k x rises at = absurd (cc at)
until_at n most (y ∷ ys) zero x rises at =
    let same : y ≡ x = same_Some y x at in
    let least = first_least n y ys rises in (
      λ low. grind (arith, nat_tests),
      λ above.
          let none = none_up_to n most (y ∷ ys) (All-cons (λ z. most < n z) y ys (rw same above)
          (All-weaker (λ z. n y ≤ n z) (λ z. most < n z)
          (λ z le. let same' = ap n same in omega arith) ys least)) in
          rw none (omega arith),
    )
until_at n most (y ∷ ys) (suc k) x rises at =
    let later = until_at n most ys k x (later_rise n y ys rises) at in
    let least : n y ≤ n x = All-slice_get (λ z. n y ≤ n z) ys k x (first_least n y ys rises) at in (
      λ low.
          let rest = later.0 low in
          grind (arith, nat_tests),
      λ above.
          let rest = later.1 above in
          grind (arith, nat_tests),
    )

-- The elements up to a number are the first ones.
pub until_take : {X : Type 0} (n : X → ℕ) (most : ℕ) (xs : List X) → IsNonDecreasingBy n xs
    → rows_until n most xs ≡ take (length (rows_until n most xs)) xs
until_take n most [] rises = refl
until_take n most (x ∷ xs) rises =
    let later = until_take n most xs (later_rise n x xs rises) in
    elim (cases_Bool (nat_le (n x) most)) [
      | inl low ↦ rw low (ap (λ ys. x ∷ ys) later)
      | inr high ↦
          let above : most < n x = grind (arith, nat_tests) in
          let none = none_up_to n most xs (All-weaker (λ z. n x ≤ n z) (λ z. most < n z)
          (λ z le. omega arith) xs (first_least n x xs rises)) in
          rw (high, none) refl
    ]

-- The element behind those up to a number is above it.
pub until_next : {X : Type 0} (n : X → ℕ) (most : ℕ) (xs : List X) (x : X) → IsNonDecreasingBy n xs
    → slice_get xs (length (rows_until n most xs)) ≡ Some x → most < n x
until_next n most xs x rises at = elim (cases_lt most (n x)) [
  | inl above ↦ above
  | inr low ↦
      let within = (until_at n most xs (length (rows_until n most xs)) x rises at).0 low in
      absurd (omega arith)
]

-- Up to a greater number there are no more, where the next element is above that too, or none is
-- there.
pub until_steady : {X : Type 0} (n : X → ℕ) (low high : ℕ) (xs : List X) → IsNonDecreasingBy n xs
    → low ≤ high → IfSome (slice_get xs (length (rows_until n low xs))) (λ x. high < n x)
    → rows_until n high xs ≡ rows_until n low xs
until_steady n low high [] rises le next = refl
until_steady n low high (x ∷ xs) rises le next = elim (cases_lt low (n x)) [
  | inl past ↦
      let least = first_least n x xs rises in
      let above : (most : ℕ) → most < n x → rows_until n most (x ∷ xs) ≡ [] = λ most less.
      none_up_to n most (x ∷ xs) (All-cons (λ z. most < n z) x xs less
      (All-weaker (λ z. n x ≤ n z) (λ z. most < n z) (λ z le. omega arith) xs least)) in
      let none = above low past in
      let beyond : high < n x = rw none at next in
      above high beyond ∙ sym none
  | inr early ↦
      let kept = le-leb (n x) low early in
      let later = le-leb (n x) high (omega arith) in
      let rest = until_steady n low high xs (later_rise n x xs rises) le (rw kept at next) in
      rw (kept, later) (ap (λ ys. x ∷ ys) rest)
]

-- As many as there are at most.
pub until_few : {X : Type 0} (n : X → ℕ) (most : ℕ) (xs : List X)
    → length (rows_until n most xs) ≤ length xs
until_few n most xs = rw (length-filter (λ y. nat_le (n y) most) xs)
    (count_by-le-length (λ y. nat_le (n y) most) xs)

-- Up to a greater number there aren't fewer.
pub until_later : {X : Type 0} (n : X → ℕ) (low high : ℕ) (xs : List X) → low ≤ high
    → length (rows_until n low xs) ≤ length (rows_until n high xs)
until_later n low high [] le = omega arith
until_later n low high (x ∷ xs) le =
    let later = until_later n low high xs le in
    grind (arith, nat_tests)

-- Where the rule on order is kept, cycles don't fall, and none is less than the one before all.
pub in_order-rises : {R : Type 0} (at : R → ℕ) (last number : ℕ) (rows : List R) (kept : Unit {0})
    → are_in_order last number (map at rows) ≡ Ok kept
    → All (λ one. last ≤ at one) rows × IsNonDecreasingBy at rows
in_order-rises at last number [] kept is =
    (All-nil (λ one. last ≤ at one), λ i j d le within. absurd (omega arith))
in_order-rises at last number (one ∷ rows) kept is =
    let here : last ≤ at one = grind (arith, nat_tests) in
    let later : are_in_order (at one) (number + 1) (map at rows) ≡ Ok kept =
    grind (arith, nat_tests) in
    let rest = in_order-rises at (at one) (number + 1) rows kept later in (
      All-cons (λ other. last ≤ at other) one rows here
          (All-weaker (λ other. at one ≤ at other) (λ other. last ≤ at other)
          (λ other le. omega arith) rows rest.0),
      rise-cons at one rows rest.0 rest.1,
    )
