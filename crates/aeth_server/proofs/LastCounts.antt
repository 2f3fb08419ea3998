-- Counts kept as a list of the last ones, newest first, and their bounds.
use Rattle.std.proofs.Common.{ℕ, ◌≤◌, ◌≡◌, List, [], ◌∷◌, get_or, take, zero, suc, arith, All}
use Rattle.std.proofs.lemmas.List.Elements.{All-cons, All-take}

-- No count is above the most that all are.
pub entry-most : (most : ℕ) (counts : List ℕ) (j : ℕ) → All (λ n. n ≤ most) counts
    → get_or counts j 0 ≤ most
entry-most most [] j all = omega arith
entry-most most (n ∷ counts) zero all = all 0 0 (omega arith)
entry-most most (n ∷ counts) (suc j) all =
    entry-most most counts j (λ k d low. all (suc k) d (omega arith))

-- And none with one more, of which the oldest is dropped.
pub shifted-most : (most newest kept : ℕ) (before after : List ℕ) → All (λ n. n ≤ most) before
    → after ≡ newest ∷ take kept before → newest ≤ most → All (λ n. n ≤ most) after
shifted-most most newest kept before after all is low =
    rw is (All-cons (λ n. n ≤ most) newest (take kept before) low
    (All-take (λ n. n ≤ most) kept before all))
