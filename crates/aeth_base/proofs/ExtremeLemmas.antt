-- The least and the greatest among the numbers below a bound, and the greater of two numbers.
use Rattle.std.proofs.Common.{ℕ, ◌-◌, ◌<◌, ◌≤◌, ◌≡◌, ◌∙◌, zero, suc, Bool, true, false, cond, max}
use Rattle.std.proofs.Common.{refl, sym, ap, inl, inr, arith}
use Rattle.std.proofs.lemmas.Bool.{cases_eq, cases_lt, Decides.nat_tests}
use Rattle.std.specs.Ordering.{nat_cmp, ord_max}
use Rattle.aeth_base.specs.Extremes.{least_below, greatest_below}

-- A number below the bound that passes the test.
pub record Passes (test : ℕ → Bool) (bound k : ℕ) : Type 0 where
  pub within : k < bound
  pub passes : test k ≡ true

-- A test has one answer.
pub true_and_false : (b : Bool) → b ≡ true → b ≡ false → ⊥
true_and_false b holds fails = let both : true ≡ false = sym holds ∙ fails in cc

-- Where some number below the bound passes, so does the least.
pub least_below-passes : (test : ℕ → Bool) (bound k : ℕ) → k < bound → test k ≡ true
    → Passes test bound (least_below test bound)
least_below-passes test zero k within passes = absurd (omega arith)
least_below-passes test (suc n) k within passes =
    let split : (v : Bool) → test 0 ≡ v
    → Passes test (suc n) (cond v 0 (suc (least_below (λ j. test (suc j)) n))) = elim [
      | true ↦ λ first. record { within = omega arith; passes = first }
      | false ↦ λ first. elim (cases_eq k 0) [
        | inl here ↦ absurd (true_and_false (test k) passes (ap test here ∙ first))
        | inr past ↦
            let before : suc (k - 1) ≡ k = omega arith in
            let same = ap test before ∙ passes in
            let rest = least_below-passes (λ j. test (suc j)) n (k - 1) (omega arith) same in
            record { within = omega (arith, rest.within); passes = rest.passes }
      ]
    ] in split (test 0) refl

-- No number below the least one passes.
pub least_below-first : (test : ℕ → Bool) (bound k : ℕ) → k < least_below test bound
    → test k ≡ false
least_below-first test zero k below = absurd (omega arith)
least_below-first test (suc n) k below =
    let split : (v : Bool) → test 0 ≡ v
    → k < cond v 0 (suc (least_below (λ j. test (suc j)) n)) → test k ≡ false = elim [
      | true ↦ λ first less. absurd (omega arith)
      | false ↦ λ first less. elim (cases_eq k 0) [
        | inl here ↦ ap test here ∙ first
        | inr past ↦
            let before : suc (k - 1) ≡ k = omega arith in
            sym (ap test before) ∙ least_below-first (λ j. test (suc j)) n (k - 1) (omega arith)
      ]
    ] in split (test 0) refl below

-- A number that passes where none before it does is the least.
pub least_below-is : (test : ℕ → Bool) (bound k : ℕ) → k < bound → test k ≡ true
    → ((j : ℕ) → j < k → test j ≡ false) → least_below test bound ≡ k
least_below-is test bound k within passes first =
    let found = least_below-passes test bound k within passes in
    elim (cases_lt (least_below test bound) k) [
      | inl low ↦ absurd (true_and_false _ found.passes (first (least_below test bound) low))
      | inr high ↦ elim (cases_lt k (least_below test bound)) [
        | inl low ↦ absurd (true_and_false _ passes (least_below-first test bound k low))
        | inr same ↦ omega arith
      ]
    ]

-- The greatest value is no less than any.
pub greatest_below-above : (value : ℕ → ℕ) (n k : ℕ) → k < n → value k ≤ greatest_below value n
greatest_below-above value zero k within = absurd (omega arith)
greatest_below-above value (suc n) k within = elim (cases_eq k n) [
  | inl last ↦ let same : value k ≡ value n = ap value last in omega (arith, same)
  | inr other ↦ omega (arith, greatest_below-above value n k (omega arith))
]

-- And no more than any number that is above all.
pub greatest_below-least : (value : ℕ → ℕ) (n top : ℕ) → ((k : ℕ) → k < n → value k ≤ top)
    → greatest_below value n ≤ top
greatest_below-least value zero top above = omega arith
greatest_below-least value (suc n) top above =
    let last = above n (omega arith) in
    let rest = greatest_below-least value n top (λ k low. above k (omega arith)) in
    omega (arith, last, rest)

-- The greater of two numbers, as `max` in code answers it.
pub ord_max-nat : (a b : ℕ) → ord_max nat_cmp a b ≡ max a b
ord_max-nat a b = grind (arith, nat_tests)
