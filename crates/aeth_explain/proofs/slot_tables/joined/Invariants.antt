use Rattle.std.proofs.Common.{◌≡◌, Bool, length, map, ℕ}
use Rattle.std.specs.List.{range_with_len}
use Rattle.aeth_group.specs.Tables.{IsTable}
use Rattle.aeth_explain.specs.SlotTables.{taken_by}
use Rattle.aeth_explain.proofs.slot_tables.joined.Given as goal

-- The masks of the links so far.
abbrev pub invariant-loop-link : goal.invariant-loop-link
invariant-loop-link l = record {
  count : length l.joined.items ≡ l.link;
  masks : (test : ℕ → ℕ → ℕ → Bool) → IsTable l.chip.slots (length l.chip.links) test l.masks
      → l.joined.items ≡ map (taken_by l.chip.slots test l.uses) (range_with_len 0 l.link);
}
