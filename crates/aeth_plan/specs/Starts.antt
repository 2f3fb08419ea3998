-- The starts of a line, kept as a set or as a list. This project's own.
--
--   starts_of      the starts
use Rattle.std.proofs.Common.{ℕ, List, Option, Some, None}
use Rattle.aeth_slots.specs.SlotSet.{Slots}

-- The slots of the set, and those of the list where there is no set.
abbrev pub starts_of : Option Slots → List ℕ → List ℕ
starts_of None list = list
starts_of (Some set) list = set.slots
