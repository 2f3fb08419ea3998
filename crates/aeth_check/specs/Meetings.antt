-- Whether flits of two grants meet, as a test. Slots and links: after Æthereal (2005).
--
--   meets      whether flits of a path enter some link in a slot that passes a test
--   touches      whether flits of a grant do, in a use case that has the grant's unit
--   conflicts      whether two grants conflict
use Rattle.std.proofs.Common.{ℕ, ◌+◌, ◌%◌, ◌&&◌, ◌||◌, Bool, false, List, [], ◌∷◌, length}
use Rattle.std.specs.List.{list_any, range_with_len}
use Rattle.aeth_base.specs.declared.ids.LinkId.{LinkId}
use Rattle.aeth_chip.specs.{Paths.delay_of, declared.node.Link.Link}
use Rattle.aeth_slots.specs.SlotSet.{Slots}
use Rattle.aeth_group.specs.{Members.GroupsData, Members.has_unit, Occupation.holds_in}
use Rattle.aeth_group.specs.{declared.grant.Grant.Grant}

-- Whether a flit that starts in one of these slots, and so many cycles later enters the path,
-- enters some link in a slot that passes a test of links and slots.
abbrev pub meets : (ℕ → ℕ → Bool) → Slots → List Link → ℕ → List LinkId → Bool
meets test starts links after [] = false
meets test starts links after (k ∷ path) =
    list_any (λ x. test k.0 ((x + after) % starts.size)) starts.slots
    || meets test starts links (after + delay_of links k) path

-- Whether flits of a grant enter some link in a slot that passes a test of use cases, links and
-- slots, in a use case that has the grant's unit.
abbrev pub touches : List Link → GroupsData → (ℕ → ℕ → ℕ → Bool) → Grant → Bool
touches links groups test grant =
    list_any (λ u. has_unit groups grant.unit u
    && meets (test u) grant.slots links 0 grant.path) (range_with_len 0 (length groups.uses))

-- Whether two grants conflict: flits of the one enter a link in a slot that the other holds, in a
-- use case that has both.
abbrev pub conflicts : List Link → GroupsData → Grant → Grant → Bool
conflicts links groups a b = touches links groups (λ u l s. holds_in groups links u l s b) a
