-- Orders of components, as lists of their numbers.
-- Turns within a cycle: this project's own.
use Rattle.std.proofs.Common.{ℕ, ◌+◌, ◌%◌, ◌^◌, ◌<◌, ◌==◌, List, length, map, IsPermutation, All}
use Rattle.std.specs.List.{range_with_len, IsDistinct}

-- A permutation of the numbers below its length, which fits 32 bits.
pub record IsOrder (numbers : List ℕ) : Type 0 where
  pub short : length numbers < 2 ^ 32
  pub permutes : IsPermutation (range_with_len 0 (length numbers)) numbers

-- Different numbers below a count: those of the components that take a turn.
pub record AreChosen (count : ℕ) (numbers : List ℕ) : Type 0 where
  pub distinct : IsDistinct (λ number other. number == other) numbers
  pub below : All (λ number. number < count) numbers

-- The numbers below a count, from a turn on and round.
abbrev pub rotation_of : ℕ → ℕ → List ℕ
rotation_of count turn = map (λ place. (turn + place) % count) (range_with_len 0 count)
