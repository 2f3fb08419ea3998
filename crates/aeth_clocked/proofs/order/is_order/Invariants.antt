use Rattle.std.proofs.Common.{◌≡◌, ℕ, ◌<◌, true, eqb}
use Rattle.std.specs.List.{list_any}
use Rattle.aeth_clocked.proofs.order.is_order.Given as goal

-- Each number so far is in the list.
abbrev pub invariant-loop-number : goal.invariant-loop-number
invariant-loop-number l =
    (i : ℕ) → i < l.number-counter → list_any (λ number. eqb number i) l.numbers ≡ true
