-- The slot tables of all use cases, in which grants are put as they come. This project's own.
--
--   SlotTablesData      masks, and of how many grants they tell
--   is_occupied      whether one of some grants occupies a slot in a use case
--   AreTables      they tell of the first so many of some grants
--   taken_by      the slots of a link that use cases have
use Rattle.std.proofs.Common.{◌≡◌, ◌≤◌, ◌*◌, ℕ, Bool, List, length, take}
use Rattle.std.specs.List.{list_any}
use Rattle.aeth_slots.specs.SlotSet.{Slots, slots_where}
use Rattle.aeth_chip.specs.{Chip.ChipData, declared.node.Link.Link}
use Rattle.aeth_group.specs.{Members.GroupsData, Occupation.holds_in, Tables.IsTable}
use Rattle.aeth_group.specs.{declared.grant.Grant.Grant}

-- A mask for each use case and link, row by row, and the number of grants of which they tell.
pub record SlotTablesData : Type 0 where
  pub count : ℕ
  pub masks : List Slots

-- Whether one of some grants occupies a slot of a link in a use case.
abbrev pub is_occupied : List Link → GroupsData → List Grant → ℕ → ℕ → ℕ → Bool
is_occupied links groups grants u l s = list_any (holds_in groups links u l s) grants

-- The tables have the slots that the first so many of some grants occupy.
pub record AreTables (chip : ChipData) (groups : GroupsData) (grants : List Grant)
    (tables : SlotTablesData) : Type 0 where
  pub within : tables.count ≤ length grants
  pub rows : length tables.masks ≡ length groups.uses * length chip.links
  pub table : IsTable chip.slots (length chip.links)
      (is_occupied chip.links groups (take tables.count grants)) tables.masks

-- The slots of a link that some use cases have, by a test of tables.
abbrev pub taken_by : ℕ → (ℕ → ℕ → ℕ → Bool) → List ℕ → ℕ → Slots
taken_by size test uses l = slots_where size (λ s. list_any (λ u. test u l s) uses)
