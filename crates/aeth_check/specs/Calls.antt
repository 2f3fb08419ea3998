-- What the calls of a check are handed.
--
--   IsWithin, IsPlaced      a grant that names what there is
--   first_meeting      the place of the first item that meets one behind it
-- This project's own.
use Rattle.std.proofs.Common.{◌≡◌, ◌<◌, ◌≤◌, ◌+◌, ℕ, Bool, List, [], ◌∷◌, Option, Some, None, All}
use Rattle.std.proofs.Common.{length, if◌then◌else◌}
use Rattle.std.specs.List.{list_any}
use Rattle.aeth_chip.specs.Chip.{ChipData}
use Rattle.aeth_app.specs.App.{AppData}
use Rattle.aeth_group.specs.declared.grant.Grant.{Grant}

-- The grant's connection is one of the application's, and its links are the chip's.
pub record IsWithin (chip : ChipData) (app : AppData) (grant : Grant) : Type 0 where
  pub conn : grant.unit.conn.0 < length app.connections
  pub links : All (λ link. link.0 < length chip.links) grant.path

-- The grant's links are the chip's, and its slots are of the chip's table size, which isn't 0.
pub record IsPlaced (chip : ChipData) (grant : Grant) : Type 0 where
  pub links : All (λ link. link.0 < length chip.links) grant.path
  pub some : 1 ≤ grant.slots.size
  pub size : grant.slots.size ≡ chip.slots

-- The place of the first item for which a test of two passes with an item behind it. The first item
-- of the list has this place.
abbrev pub first_meeting : {X : Type 0} → (X → X → Bool) → ℕ → List X → Option ℕ
first_meeting test place [] = None
first_meeting test place (x ∷ xs) =
    if list_any (test x) xs then Some place else first_meeting test (place + 1) xs
