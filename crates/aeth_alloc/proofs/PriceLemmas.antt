-- The table of an application's price is what a cost with these answers is seen as.
use Rattle.std.proofs.Common.{◌≡◌, ◌∙◌, ◌<◌, ◌≤◌, ◌+◌, ◌-◌, ◌*◌, ◌/◌, ◌%◌, ℕ, List, ap, get_or, sym}
use Rattle.std.proofs.Common.{arith}
use Rattle.std.proofs.lemmas.List.{get_or_default, same_lists}
use Rattle.std.proofs.lemmas.List.FromFn.{get_or-map-range_with_len, length-map-range_with_len}
use Rattle.aeth_base.specs.Limits.{max_link_delay, max_slots}
use Rattle.aeth_paths.specs.Costs.{AreCosts, HasOneAnswer, cost_count, price, used_count}
use Rattle.aeth_app.specs.declared.connection.Price.{Price, TheVariants.Hops, TheVariants.Pressure}
use Rattle.aeth_alloc.specs.Prices.{cost_by, prices_of, table_of}

-- Answers that are a price's are one, from 1 to the greatest cost.
pub HasOneAnswer-cost : (its : Price) (d u : ℕ) → u ≤ max_slots → {gives : ℕ → Type 0}
    → ((answer : ℕ) → gives answer → answer ≡ cost_by its d u) → HasOneAnswer gives
HasOneAnswer-cost Hops d u few only =
    record { answer = 1; only = only; some = omega arith; most = omega arith }
HasOneAnswer-cost Pressure d u few only =
    record { answer = 1 + u; only = only; some = omega arith; most = omega arith }

-- A table whose answers are those of a function is the table of this function.
same-table : (table : List ℕ) (cost : ℕ → ℕ → ℕ) → AreCosts table
    → ((d u : ℕ) → 1 ≤ d → d ≤ max_link_delay → u ≤ max_slots → price table d u ≡ cost d u)
    → table ≡ table_of cost
same-table table cost are same =
    let answer : ℕ → ℕ = λ i. cost (1 + i / used_count) (i % used_count) in
    let size = length-map-range_with_len answer 0 cost_count in
    same_lists table (table_of cost) (are.count ∙ sym size) (λ i d within.
    let low : i < cost_count = omega (arith, within, are.count) in
    let row : ℕ = 1 + i / used_count in
    let place : used_count * (row - 1) + i % used_count ≡ i = omega arith in
    get_or_default table i d 0 within
    ∙ sym (ap (λ k. get_or table k 0) place)
    ∙ same row (i % used_count) (omega arith) (omega (arith, low)) (omega arith)
    ∙ sym (get_or-map-range_with_len answer 0 cost_count i i d low (omega arith)))

-- So a cost with the answers of a price is seen as this price's table.
pub price-table : (its : Price) (table : List ℕ) → AreCosts table
    → ((d u : ℕ) → 1 ≤ d → d ≤ max_link_delay → u ≤ max_slots → price table d u ≡ cost_by its d u)
    → table ≡ prices_of its
unfolding prices_of
price-table its table = same-table table (cost_by its)
