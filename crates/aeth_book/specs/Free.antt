-- The starts that a book of grants leaves free, and how many slots it uses. This project's own.
--
--   is_rival, is_taken, taken_slots      grants that a unit must not meet, and the slots of a link
--                                        that they have
--   is_open, free_starts      the starts at which a path meets none of them
--   IsFreeStart      what a free start is, place by place
--   narrowed      the starts of a set at which one link meets none of them
--   is_occupied, occupied_slots      the slots of a link that are occupied in a use case
--   uses_with, used_slots      the use cases that have a unit, and how many slots they use at most
use Rattle.std.proofs.Common.{ℕ, ◌+◌, ◌%◌, ◌==◌, ◌&&◌, Bool, true, not, List, [], ◌∷◌, ◌≡◌, ◌<◌}
use Rattle.std.proofs.Common.{length, map, filter, slice_get, Contains, IsTrue, Some}
use Rattle.std.specs.List.{list_any, range_with_len}
use Rattle.aeth_base.specs.declared.ids.{LinkId.LinkId, Unit.Unit as GroupUnit}
use Rattle.aeth_chip.specs.Paths.{delay_of, offset}
use Rattle.aeth_slots.specs.SlotSet.{Slots, greatest, slots_where}
use Rattle.aeth_group.specs.declared.grant.Grant.{Grant}
use Rattle.aeth_group.specs.Members.{GroupsData, are_together, has_unit}
use Rattle.aeth_group.specs.Occupation.{Occupies, holds_in, occupies}
use Rattle.aeth_book.specs.Book.{BookData}

-- Whether a grant is of the unit's group, and its connection is together with the unit's.
abbrev pub is_rival : GroupsData → GroupUnit → Grant → Bool
is_rival groups unit grant = grant.unit.group.0 == unit.group.0
    && are_together groups unit.group.0 grant.unit.conn.0 unit.conn.0

-- Whether a rival of the unit occupies a slot of a link.
abbrev pub is_taken : BookData → GroupUnit → ℕ → ℕ → Bool
is_taken book unit l s =
    list_any (λ grant. is_rival book.groups unit grant && occupies book.links grant l s) book.grants

-- These slots of a link.
abbrev pub taken_slots : BookData → GroupUnit → ℕ → Slots
taken_slots book unit l = slots_where book.size (is_taken book unit l)

-- Whether no rival is met by a flit that starts in this slot, and so many cycles later enters the
-- path.
abbrev pub is_open : BookData → GroupUnit → ℕ → List LinkId → ℕ → Bool
is_open book unit after [] x = true
is_open book unit after (k ∷ path) x = not (is_taken book unit k.0 ((x + after) % book.size))
    && is_open book unit (after + delay_of book.links k) path x

-- The free starts of a path.
abbrev pub free_starts : BookData → GroupUnit → List LinkId → Slots
free_starts book unit path = slots_where book.size (is_open book unit 0 path)

-- A free start of a path, place by place: a slot of the table, such that no rival occupies the link
-- at any place in the slot in which a flit that starts in it enters this link.
pub record IsFreeStart (book : BookData) (unit : GroupUnit) (path : List LinkId) (start : ℕ)
    : Type 0 where
  pub below : start < book.size
  pub clear : (place : ℕ) (link : LinkId) (grant : Grant) → slice_get path place ≡ Some link
      → Contains book.grants grant → IsTrue (is_rival book.groups unit grant)
      → Occupies book.links grant link.0 ((start + offset book.links path place) % book.size) → ⊥

-- The starts of a set at which no rival occupies the link, which a flit enters so many cycles
-- later.
abbrev pub narrowed : BookData → GroupUnit → ℕ → ℕ → Slots → Slots
narrowed book unit l offset set = record {
  size = set.size;
  slots = filter (λ x. not (is_taken book unit l ((x + offset) % book.size))) set.slots;
}

-- Whether a grant occupies a slot of a link in a use case.
abbrev pub is_occupied : BookData → ℕ → ℕ → ℕ → Bool
is_occupied book u l s = list_any (holds_in book.groups book.links u l s) book.grants

-- The slots of a link that grants occupy in a use case.
abbrev pub occupied_slots : BookData → ℕ → ℕ → Slots
occupied_slots book u l = slots_where book.size (is_occupied book u l)

-- The use cases of the unit's group that have its connection.
abbrev pub uses_with : GroupsData → GroupUnit → List ℕ
uses_with groups unit = filter (has_unit groups unit) (range_with_len 0 (length groups.uses))

-- The greatest number of slots of a link that are occupied in one use case, over the use cases of
-- the unit's group that have its connection.
abbrev pub used_slots : BookData → GroupUnit → ℕ → ℕ
used_slots book unit l =
    greatest (map (λ u. length (occupied_slots book u l).slots) (uses_with book.groups unit))
