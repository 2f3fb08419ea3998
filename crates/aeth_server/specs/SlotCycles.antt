-- The cycles of a slot set: cycle t has slot t modulo the table size.
-- Slot table: after Æthereal (2005).
use Rattle.std.proofs.Common.{ℕ, ◌+◌, ◌*◌, ◌%◌, ◌==◌, ◌≡◌, ◌≤◌, ◌<◌, nat_le, Bool, true, false}
use Rattle.std.proofs.Common.{if◌then◌else◌, List, zero, suc}
use Rattle.std.specs.List.{list_any}
use Rattle.aeth_base.specs.Extremes.{least_below}

-- The slot of this cycle is in the list.
abbrev pub is_slot : ℕ → List ℕ → ℕ → Bool
is_slot size slots t = list_any (λ x. t % size == x) slots

-- Cycle u is the first from t on whose slot is in the list; it comes within a turn of the table.
pub record IsNextCycle (size : ℕ) (slots : List ℕ) (t u : ℕ) : Type 0 where
  pub late : t ≤ u
  pub near : u < t + size
  pub none : (v : ℕ) → t ≤ v → v < u → is_slot size slots v ≡ false
  pub here : is_slot size slots u ≡ true

-- How many of the n cycles from s on have their slot in the list.
abbrev pub slots_within : ℕ → List ℕ → ℕ → ℕ → ℕ
slots_within size slots s zero = 0
slots_within size slots s (suc n) =
    slots_within size slots s n + (if is_slot size slots (s + n) then 1 else 0)

-- The q-th cycle at or after s whose slot is in the list: the least up to which q of them lie.
-- Some slot is in the list, so q of them lie within q tables.
unfoldable pub nth_slot : ℕ → List ℕ → ℕ → ℕ → ℕ
nth_slot size slots s q =
    s + least_below (λ n. nat_le q (slots_within size slots s (n + 1))) (q * size)
