-- Masks that hold grants: a table with the slots of some grants, and no others. This project's own.
--
--   is_held      whether some grant occupies a slot
--   Holds      masks that hold some grants
--   AreTaken      the slots that flits of a grant take on each link
use Rattle.std.proofs.Common.{◌≡◌, ◌<◌, ℕ, Bool, List, Some, length, slice_get}
use Rattle.std.specs.List.{list_any}
use Rattle.aeth_chip.specs.{Chip.ChipData, declared.node.Link.Link, Paths.offset}
use Rattle.aeth_slots.specs.SlotSet.{Slots, rotated}
use Rattle.aeth_group.specs.{Members.GroupsData, Occupation.holds_in, Tables.IsTable}
use Rattle.aeth_group.specs.{declared.grant.Grant.Grant}

-- Whether some grant occupies a slot of a link in a use case.
abbrev pub is_held : List Link → GroupsData → List Grant → ℕ → ℕ → ℕ → Bool
is_held links groups grants u l s = list_any (holds_in groups links u l s) grants

-- The masks hold some grants: they have the slots that these occupy, and no others.
abbrev pub Holds : ChipData → GroupsData → List Grant → List Slots → Type 0
Holds chip groups grants masks =
    IsTable chip.slots (length chip.links) (is_held chip.links groups grants) masks

-- The slots that flits of a grant take, in a set for each link of its path.
abbrev pub AreTaken : List Link → Grant → List Slots → Type 0
AreTaken links grant sets = (i : ℕ) → i < length grant.path
    → slice_get sets i ≡ Some (rotated (offset links grant.path i) grant.slots)
