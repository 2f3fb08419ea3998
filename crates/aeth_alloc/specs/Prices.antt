-- What links cost by an application's price, as tables of costs. This project's own.
--
--   table_of      the table of the answers of a function of a link's delay and its used slots
--   cost_by      what a link costs by each of the two prices
--   prices_of      the table of an application's price
use Rattle.std.proofs.Common.{ℕ, ◌+◌, ◌/◌, ◌%◌, List, map}
use Rattle.std.specs.List.{range_with_len}
use Rattle.aeth_app.specs.declared.connection.Price.{Price, TheVariants.Hops, TheVariants.Pressure}
use Rattle.aeth_paths.specs.Costs.{cost_count, used_count}

-- The table of the answers of a function: a row for each delay from 1 on, with an answer for each
-- number of used slots.
abbrev pub table_of : (ℕ → ℕ → ℕ) → List ℕ
table_of cost = map (λ i. cost (1 + i / used_count) (i % used_count)) (range_with_len 0 cost_count)

-- By `hops` each link costs 1. By `pressure` it costs 1 and one more for each of its slots that is
-- used.
abbrev pub cost_by : Price → ℕ → ℕ → ℕ
cost_by Hops delay used = 1
cost_by Pressure delay used = 1 + used

-- The table of a price.
unfoldable pub prices_of : Price → List ℕ
prices_of price = table_of (cost_by price)
