-- Rows that come in the order of their cycles.
--
--   passed, IsBehind      how many rows lie before a cycle, and the place behind those of a cycle
-- This project's own.
use Rattle.std.proofs.Common.{◌≡◌, ◌≤◌, ◌+◌, ◌==◌, ℕ, List, filter, length, nat_lt, slice_range}

-- How many rows lie before a cycle, where this is the cycle of a row.
abbrev pub passed : {X : Type 0} → (X → ℕ) → ℕ → List X → ℕ
passed key cycle rows = length (filter (λ row. nat_lt (key row) cycle) rows)

-- Behind the rows of a cycle, from the first of them on.
pub record IsBehind {X : Type 0} (key : X → ℕ) (cycle : ℕ) (rows : List X) (from to : ℕ) : Type 0
  where
    pub place : to ≡ passed key (cycle + 1) rows
    pub after : from ≤ to
    pub within : to ≤ length rows
    pub rows_are : slice_range rows from to ≡ filter (λ row. key row == cycle) rows
