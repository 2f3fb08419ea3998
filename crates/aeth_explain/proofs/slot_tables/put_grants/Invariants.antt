use Rattle.std.proofs.Common.{◌≡◌, ◌*◌, length, take}
use Rattle.aeth_group.specs.Tables.{IsTable}
use Rattle.aeth_explain.specs.SlotTables.{is_occupied}
use Rattle.aeth_explain.proofs.slot_tables.put_grants.Given as goal

-- The grants so far are in.
abbrev pub invariant-loop-i : goal.invariant-loop-i
invariant-loop-i l = record {
  rows : length l.masks ≡ length l.groups.uses * length l.chip.links;
  table : IsTable l.chip.slots (length l.chip.links)
      (is_occupied l.chip.links l.groups (take l.i l.grants)) l.masks;
}
