-- Tables of slots, a mask for each use case and link, and how they change. This project's own.
--
--   IsTable, HasTable      the masks that a test of use case, link and slot gives
--   changed, Changes      slots that are put in, or taken out
--   hits_row, hits_uses      where flits along a path change one use case, and those of a unit
use Rattle.std.proofs.Common.{◌≡◌, ◌<◌, ◌+◌, ◌*◌, ◌==◌, ◌&&◌, nat_lt, if◌then◌else◌, ℕ, Bool, List}
use Rattle.std.proofs.Common.{Some, length, slice_get}
use Rattle.aeth_base.specs.declared.ids.{LinkId.LinkId, Unit.Unit as GroupUnit}
use Rattle.aeth_chip.specs.declared.node.Link.{Link}
use Rattle.aeth_slots.specs.SlotSet.{Slots, joined, slots_where, without}
use Rattle.aeth_group.specs.{Members.GroupsData, Members.has_unit, Occupation.enters}

-- The mask of each use case and link, row by row, has the slots that pass a test.
abbrev pub IsTable : ℕ → ℕ → (ℕ → ℕ → ℕ → Bool) → List Slots → Type 0
IsTable size links test masks = (u l : ℕ) → l < links → u * links + l < length masks
    → slice_get masks (u * links + l) ≡ Some (slots_where size (test u l))

-- The masks are those of some test.
abbrev pub HasTable : ℕ → ℕ → List Slots → Type 0
HasTable size links masks = (test : ℕ → ℕ → ℕ → Bool) × IsTable size links test masks

-- A set with the slots of another put in, or taken out.
abbrev pub changed : Bool → Slots → Slots → Slots
changed put set other = if put then joined set other else without set other

-- The slots of all masks that are hit were put in, or taken out, and no others.
pub record Changes (size links : ℕ) (hits : ℕ → ℕ → ℕ → Bool) (put : Bool) (old new : List Slots)
    : Type 0 where
  pub count : length new ≡ length old
  pub table : (test : ℕ → ℕ → ℕ → Bool) → IsTable size links test old
      → IsTable size links (λ u l s. if hits u l s then put else test u l s) new

-- Whether flits enter a link in a slot along a path, in one use case.
abbrev pub hits_row : Slots → List Link → ℕ → List LinkId → ℕ → ℕ → ℕ → Bool
hits_row starts links u path v l s = v == u && enters starts links 0 path l s

-- Whether flits enter a link in a slot along a path, in one of the first use cases that has a unit.
abbrev pub hits_uses : Slots → List Link → GroupsData → GroupUnit → List LinkId → ℕ → ℕ → ℕ → ℕ
    → Bool
hits_uses starts links groups unit path bound v l s =
    nat_lt v bound && (has_unit groups unit v && enters starts links 0 path l s)
