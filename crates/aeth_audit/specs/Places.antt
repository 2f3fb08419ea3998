-- Where the flits of a plan's grants enter the links, as a list for each link and slot.
--
--   cell_at, Adds      a cell, and what is added to cells
--   IsPlaced      a grant of a chip
--   IsInCell, IsOfGrant, ArePlaces      the places of a path, of a grant and of all grants
-- Slots along paths: after Æthereal (2005).
use Rattle.std.proofs.Common.{◌≡◌, ◌≤◌, ◌<◌, ◌⊎◌, ◌↔◌, ◌+◌, ◌*◌, ℕ, All, Contains, List, [], Option}
use Rattle.std.proofs.Common.{Some, None, length, slice_get}
use Rattle.std.specs.declared.{alloc.Global.Global, vec.Vec.Vec}
use Rattle.aeth_base.specs.{Limits.max_path_links, declared.ids.LinkId.LinkId}
use Rattle.aeth_chip.specs.{Chip.ChipData, Paths.offset}
use Rattle.aeth_group.specs.declared.grant.Grant.{Grant}
use Rattle.aeth_slots.specs.SlotSet.{Ascends, rotated}
use Rattle.aeth_audit.specs.declared.places.Place.{Place}

-- The places of a cell that may be missing.
abbrev pub cell_in : Option (Vec Place Global) → List Place
cell_in None = []
cell_in (Some cell) = cell.items

-- The places of a cell.
abbrev pub cell_at : List (Vec Place Global) → ℕ → List Place
cell_at cells n = cell_in (slice_get cells n)

-- These are added to the cells, and no others.
abbrev pub Adds : (ℕ → Place → Type 0) → List (Vec Place Global) → List (Vec Place Global) → Type 0
Adds Is old new = (n : ℕ) (place : Place)
    → Contains (cell_at new n) place ↔ (Contains (cell_at old n) place ⊎ Is n place)

-- A grant's path has few links, which are the chip's, and its slots are of the chip's table.
pub record IsPlaced (chip : ChipData) (grant : Grant) : Type 0 where
  pub few : length grant.path ≤ max_path_links
  pub links : All (λ link. link.0 < length chip.links) grant.path
  pub size : grant.slots.size ≡ chip.slots
  pub starts : Ascends 0 chip.slots grant.slots.slots

-- The place is this one, and the cell is that of one of these slots, which is below a limit, where
-- the cells of the link begin here.
pub record IsInCell (first : ℕ) (slots : List ℕ) (limit : ℕ) (this : Place) (n : ℕ) (place : Place)
    : Type 0 where
  pub same : place ≡ this
  pub slot : ℕ
  pub below : slot < limit
  pub has : Contains slots slot
  pub cell : n ≡ first + slot

-- The place is one of a grant's path, before a limit, and the cell is that of a slot in which its
-- flits enter the link there.
pub record IsOfGrant (chip : ChipData) (number : ℕ) (grant : Grant) (limit n : ℕ) (place : Place)
    : Type 0 where
  pub link : LinkId
  pub slot : ℕ
  pub grant_is : place.grant ≡ number
  pub below : place.place < limit
  pub at : slice_get grant.path place.place ≡ Some link
  pub ahead : place.ahead ≡ offset chip.links grant.path place.place
  pub has : Contains (rotated place.ahead grant.slots).slots slot
  pub cell : n ≡ link.0 * chip.slots + slot

-- The same of a grant of a list, before a limit.
pub record IsOfGrants (chip : ChipData) (grants : List Grant) (limit n : ℕ) (place : Place)
    : Type 0 where
  pub grant : Grant
  pub below : place.grant < limit
  pub is_grant : slice_get grants place.grant ≡ Some grant
  pub of : IsOfGrant chip place.grant grant (length grant.path) n place

-- The cells have the places of all grants' paths, and no others.
abbrev pub ArePlaces : ChipData → List Grant → List (Vec Place Global) → Type 0
ArePlaces chip grants cells = (n : ℕ) (place : Place)
    → Contains (cell_at cells n) place ↔ IsOfGrants chip grants (length grants) n place
