-- The least and the greatest among the numbers below a bound.
use Rattle.std.proofs.Common.{ℕ, max, Bool, if◌then◌else◌, zero, suc}

-- The least number below the bound that passes the test; the bound itself where none does.
abbrev pub least_below : (ℕ → Bool) → ℕ → ℕ
least_below test zero = 0
least_below test (suc n) = if test 0 then 0 else suc (least_below (λ k. test (suc k)) n)

-- The greatest value of the function at the numbers below the bound; 0 where there are none.
abbrev pub greatest_below : (ℕ → ℕ) → ℕ → ℕ
greatest_below value zero = 0
greatest_below value (suc n) = max (greatest_below value n) (value n)
