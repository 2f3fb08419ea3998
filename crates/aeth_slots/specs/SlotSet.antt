-- Sets of slots of one slot table, and what the operations on them give.
--
--   Slots, IsSlotSet, Ascends    a slot set, and what holds of every one
--   same_set                     what `==` tells
--   with_slot, ascending         a slot put in at its place, and a list put in order
--   inserted, rotated, common    what `insert`, `rotate` and `meet` give
--   slots_where, has_slot    the slots of a table that pass a test, and whether a set has a slot
--   all_slots, joined, without    what `full`, `join` and `without` give
--   IsNextSlot                   what `at_or_after` gives
--   gap_of                       the greatest cyclic distance from a slot to the next
use Rattle.std.proofs.Common.{ℕ, ◌+◌, ◌-◌, ◌%◌, ◌<◌, ◌≤◌, ◌==◌, nat_lt, max, if◌then◌else◌, Bool}
use Rattle.std.proofs.Common.{◌||◌, not, List, [], ◌∷◌, map, filter, Contains}
use Rattle.std.specs.{Ordering.on, Ordering.eq_of_both, Cmp.Lexicographic.pointwise, List.list_any}
use Rattle.std.specs.{List.range_with_len}
use Rattle.aeth_base.specs.Limits.{max_slots}

-- A slot table's size, and slots of this table, ascending.
-- Slot table: after Æthereal (2005).
pub record Slots : Type 0 where
  pub size : ℕ
  pub slots : List ℕ

-- Numbers from `low` on and below `high`, each above the one before.
abbrev pub Ascends : ℕ → ℕ → List ℕ → Type 0
Ascends low high [] = Unit {0}
Ascends low high (x ∷ xs) = (low ≤ x) × (x < high) × Ascends (x + 1) high xs

-- What holds of every slot set.
pub record IsSlotSet (set : Slots) : Type 0 where
  pub some_size : 1 ≤ set.size
  pub within : set.size ≤ max_slots
  pub ascends : Ascends 0 set.size set.slots

-- Whether two sets are equal, as `==` tells.
abbrev pub same_set : Slots → Slots → Bool
same_set = eq_of_both (on (λ set. set.size) ◌==◌) (on (λ set. set.slots) (pointwise ◌==◌))

-- An ascending list with one more slot at its place; one that is there already changes nothing.
abbrev pub with_slot : ℕ → List ℕ → List ℕ
with_slot s [] = s ∷ []
with_slot s (x ∷ xs) =
    if nat_lt s x then s ∷ x ∷ xs else (if s == x then x ∷ xs else x ∷ with_slot s xs)

-- The set with one more slot.
abbrev pub inserted : ℕ → Slots → Slots
inserted slot set = record { size = set.size; slots = with_slot slot set.slots }

-- The numbers of a list, ascending.
abbrev pub ascending : List ℕ → List ℕ
ascending [] = []
ascending (x ∷ xs) = with_slot x (ascending xs)

-- Each slot so many slots on, round the table.
abbrev pub rotated : ℕ → Slots → Slots
rotated by set =
    record { size = set.size; slots = ascending (map (λ s. (s + by) % set.size) set.slots) }

-- The slots that both sets have.
abbrev pub common : Slots → Slots → Slots
common set other =
    record { size = set.size; slots = filter (λ s. list_any (λ t. t == s) other.slots) set.slots }

-- The slots of a table that pass a test.
abbrev pub slots_where : ℕ → (ℕ → Bool) → Slots
slots_where size test = record { size = size; slots = filter test (range_with_len 0 size) }

-- All slots of a table.
abbrev pub all_slots : ℕ → Slots
all_slots size = record { size = size; slots = range_with_len 0 size }

-- Whether a slot is in a set.
abbrev pub has_slot : Slots → ℕ → Bool
has_slot set s = list_any (λ t. t == s) set.slots

-- The slots that one of the sets has.
abbrev pub joined : Slots → Slots → Slots
joined set other = slots_where set.size (λ s. has_slot set s || has_slot other s)

-- The slots of the first set that the other one hasn't.
abbrev pub without : Slots → Slots → Slots
without set other =
    record { size = set.size; slots = filter (λ s. not (has_slot other s)) set.slots }

-- The least slot of a list at or after a slot.
pub record IsNextSlot (slots : List ℕ) (from slot : ℕ) : Type 0 where
  pub member : Contains slots slot
  pub after : from ≤ slot
  pub least : (other : ℕ) → Contains slots other → from ≤ other → slot ≤ other

-- The distances on the way from a slot over ascending slots to an end.
abbrev pub distances : ℕ → List ℕ → ℕ → List ℕ
distances from [] end = (end - from) ∷ []
distances from (next ∷ rest) end = (next - from) ∷ distances next rest end

-- The distances from each slot to the next, and from the last to the first one a table later.
abbrev pub cyclic_distances : ℕ → List ℕ → List ℕ
cyclic_distances size [] = []
cyclic_distances size (first ∷ rest) = distances first rest (first + size)

-- The greatest number of a list, 0 where it has none.
abbrev pub greatest : List ℕ → ℕ
greatest [] = 0
greatest (x ∷ xs) = max x (greatest xs)

-- The greatest cyclic distance from a slot to the next; the table size where there is one slot.
-- Gap: this project's own.
abbrev pub gap_of : Slots → ℕ
gap_of set = greatest (cyclic_distances set.size set.slots)
