use Rattle.std.proofs.Common.{◌≡◌, ◌<◌, ℕ, take}
use Rattle.std.specs.List.{list_any}
use Rattle.aeth_slots.specs.SlotSet.{has_slot}
use Rattle.aeth_tables.proofs.entries.taken_by.Given as goal

-- The slots of the rows so far are taken.
abbrev pub invariant-loop-one : goal.invariant-loop-one
invariant-loop-one l = record {
  size : l.taken.size ≡ l.size;
  taken : (slot : ℕ) → slot < l.size → has_slot l.taken slot
      ≡ list_any (λ one. has_slot one.row.slots slot) (take l.one-index l.rows);
}
