-- The cost of a link as a table of answers. This project's own.
--
--   cost_count      how many answers there are
--   price      the answer for a delay and a number of used slots
--   HasOneAnswer, AreCosts      what the answers of a function and of a table must be
use Rattle.std.proofs.Common.{ℕ, ◌+◌, ◌-◌, ◌*◌, ◌<◌, ◌≤◌, ◌≡◌, List, length, slice_index}
use Rattle.aeth_base.specs.Limits.{max_link_delay, max_slots}
use Rattle.aeth_paths.specs.Limits.{max_cost}

-- How many slots may be used, from none to all of the largest table.
abbrev pub used_count : ℕ
used_count = max_slots + 1

-- How many answers a table has: for each delay of a link, one for each number of used slots.
abbrev pub cost_count : ℕ
cost_count = max_link_delay * used_count

-- The cost of a delay and a number of used slots: a row for each delay, from 1 on.
abbrev pub price : List ℕ → ℕ → ℕ → ℕ
price table delay used = slice_index table (used_count * (delay - 1) + used)

-- A function that may give these answers gives one, from 1 to the greatest cost.
pub record HasOneAnswer (gives : ℕ → Type 0) : Type 0 where
  pub answer : ℕ
  pub only : (other : ℕ) → gives other → other ≡ answer
  pub some : 1 ≤ answer
  pub most : answer ≤ max_cost

-- Each answer of a table is from 1 to the greatest cost.
pub record AreCosts (table : List ℕ) : Type 0 where
  pub count : length table ≡ cost_count
  pub some : (i : ℕ) → i < cost_count → 1 ≤ slice_index table i
  pub most : (i : ℕ) → i < cost_count → slice_index table i ≤ max_cost
