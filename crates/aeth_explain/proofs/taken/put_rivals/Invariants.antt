use Rattle.std.proofs.Common.{◌≡◌, length, take}
use Rattle.aeth_group.specs.Tables.{IsTable}
use Rattle.aeth_explain.specs.Masks.{is_held}
use Rattle.aeth_explain.proofs.taken.put_rivals.Given as goal

-- The masks have what the grants so far take.
abbrev pub invariant-loop-i : goal.invariant-loop-i
invariant-loop-i l = record {
  count : length l.masks ≡ length l.chip.links;
  table : IsTable l.chip.slots (length l.chip.links)
      (is_held l.chip.links l.groups l.unit (take l.i l.grants)) l.masks;
}
