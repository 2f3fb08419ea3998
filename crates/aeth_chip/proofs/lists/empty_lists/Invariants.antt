use Rattle.std.proofs.Common.{◌≡◌, ℕ, [], length}
use Rattle.aeth_chip.specs.Index.{list_at}
use Rattle.aeth_chip.proofs.lists.empty_lists.Given as goal

-- So many lists so far, all empty.
abbrev pub invariant-loop : goal.invariant-loop
invariant-loop l = record {
  size : length l.lists.items ≡ l.counter;
  empty : (place : ℕ) → list_at l.lists.items place ≡ [];
}
