use Rattle.std.proofs.Common.{◌≡◌, Bool, length, take, ℕ}
use Rattle.aeth_group.specs.Tables.{IsTable}
use Rattle.aeth_explain.specs.SlotTables.{taken_by}
use Rattle.aeth_explain.proofs.slot_tables.joined_at.Given as goal

-- What the use cases so far have.
abbrev pub invariant-loop-i : goal.invariant-loop-i
invariant-loop-i l = record {
  size : l.slots.size ≡ l.chip.slots;
  slots : (test : ℕ → ℕ → ℕ → Bool) → IsTable l.chip.slots (length l.chip.links) test l.fn.masks
      → l.slots ≡ taken_by l.chip.slots test (take l.i l.uses) l.fn.link;
}
