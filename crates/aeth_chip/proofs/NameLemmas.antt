-- Laws of the names of a chip.
use Rattle.std.proofs.Common.{◌≡◌, ◌++◌, ℕ, List, [], ◌∷◌, Some, position, slice_get}
use Rattle.std.proofs.lemmas.Map.Keys.{IsDistinct-tail}
use Rattle.std.specs.{List.IsDistinct, Str.bytes_eq}
use Rattle.aeth_base.proofs.DistinctNames.{position-own}
use Rattle.aeth_chip.specs.Chip.{ChipData, IsChip}

-- The last of some names that differ differ.
distinct-last : (xs ys : List (List ℕ)) → IsDistinct bytes_eq (xs ++ ys) → IsDistinct bytes_eq ys
distinct-last [] ys apart = apart
distinct-last (x ∷ xs) ys apart = distinct-last xs ys (IsDistinct-tail bytes_eq x (xs ++ ys) apart)

-- The names of network interfaces differ.
pub nis_apart : (chip : ChipData) → IsChip chip → IsDistinct bytes_eq chip.nis
nis_apart chip is_chip = distinct-last chip.routers chip.nis is_chip.apart

-- The network interface of an interface's name is that interface.
pub find_ni-own : (chip : ChipData) → IsChip chip → (ni : ℕ) (name : List ℕ)
    → slice_get chip.nis ni ≡ Some name → position (bytes_eq name) chip.nis ≡ Some ni
find_ni-own chip is_chip ni name at =
    position-own chip.nis ni name (nis_apart chip is_chip) at
