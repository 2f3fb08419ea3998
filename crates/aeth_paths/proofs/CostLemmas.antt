-- The table of a cost function's answers.
use Rattle.std.proofs.Common.{◌≡◌, ◌≤◌, ◌<◌, ◌+◌, ◌/◌, ◌%◌, ℕ, List, length, get_or, arith}
use Rattle.aeth_base.specs.Limits.{max_link_delay, max_slots}
use Rattle.aeth_paths.specs.Costs.{AreCosts, HasOneAnswer, cost_count, used_count}
use Rattle.aeth_paths.specs.Limits.{max_cost}

-- A number from 1 to the greatest cost.
record IsCost (cost : ℕ) : Type 0 where
  some : 1 ≤ cost
  most : cost ≤ max_cost

-- Where there is one answer, and it is a cost, each answer is one.
one-cost : (gives : ℕ → Type 0) (told : ℕ) → HasOneAnswer gives → gives told → IsCost told
one-cost gives told has is =
    let same = has.only told is in
    record { some = omega (arith, same, has.some); most = omega (arith, same, has.most) }

-- A table of answers of a function that has one cost for each delay and number of used slots is one
-- of costs.
pub are-costs : (gives : ℕ → ℕ → ℕ → Type 0) (table : List ℕ)
    → ((d u : ℕ) → 1 ≤ d → d ≤ max_link_delay → u ≤ max_slots → HasOneAnswer (gives d u))
    → length table ≡ cost_count
    → ((k : ℕ) → k < cost_count → gives (1 + k / used_count) (k % used_count) (get_or table k 0))
    → AreCosts table
are-costs gives table has count told =
    let one : (k : ℕ) → k < cost_count → IsCost (get_or table k 0) = λ k within.
    one-cost (gives (1 + k / used_count) (k % used_count)) (get_or table k 0)
    (has (1 + k / used_count) (k % used_count) (omega arith) (omega arith) (omega arith))
    (told k within) in
    record {
      count = count;
      some = λ k within. (one k within).some;
      most = λ k within. (one k within).most;
    }
