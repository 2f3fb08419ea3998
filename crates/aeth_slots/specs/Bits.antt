-- A mask of bits as the list of the places of its ones, and back.
use Rattle.std.proofs.Common.{ℕ, ◌+◌, ◌^◌, ◌==◌, ◌<◌, ◌≤◌, if◌then◌else◌, List, [], ◌∷◌, zero, suc}
use Rattle.std.specs.Int.{bit_at}
use Rattle.aeth_base.specs.Limits.{max_slots}

-- The places of a mask's ones, from a place on, over so many places.
abbrev pub ones_from : ℕ → ℕ → ℕ → List ℕ
ones_from mask at zero = []
ones_from mask at (suc n) =
    if bit_at mask at == 1 then at ∷ ones_from mask (at + 1) n else ones_from mask (at + 1) n

-- The mask that has ones at these places.
abbrev pub mask_of : List ℕ → ℕ
mask_of [] = 0
mask_of (x ∷ xs) = 2 ^ x + mask_of xs

-- What holds of a table size and a mask of the table's slots.
pub record IsMask (size mask : ℕ) : Type 0 where
  pub some_size : 1 ≤ size
  pub within : size ≤ max_slots
  pub below : mask < 2 ^ size
