-- The use cases of each group, as lists. This project's own.
--
--   uses_among, uses_of      the use cases of a group, ascending
--   AreRows      a list for each group
use Rattle.std.proofs.Common.{◌≡◌, ◌==◌, ℕ, List, Some, filter, length, slice_get}
use Rattle.std.specs.{List.range_with_len, declared.vec.Vec.Vec, declared.alloc.Global.Global}
use Rattle.aeth_group.specs.Members.{GroupsData, UseGroupData, group_in}

-- Those of some use cases that are of a group.
abbrev pub uses_among : List UseGroupData → ℕ → List ℕ
uses_among uses g =
    filter (λ u. group_in (slice_get uses u) == g) (range_with_len 0 (length uses))

-- The use cases of a group.
abbrev pub uses_of : GroupsData → ℕ → List ℕ
uses_of groups g = uses_among groups.uses g

-- A row for each of so many groups has its use cases.
pub record AreRows (uses : List UseGroupData) (count : ℕ) (rows : List (Vec ℕ Global)) : Type 0 where
  pub size : length rows ≡ count
  pub each : (g : ℕ) (row : Vec ℕ Global) → slice_get rows g ≡ Some row
      → row.items ≡ uses_among uses g
