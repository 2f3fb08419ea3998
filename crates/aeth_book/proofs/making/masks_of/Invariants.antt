use Rattle.std.proofs.Common.{◌≡◌, length, All, []}
use Rattle.aeth_slots.specs.SlotSet.{Slots}
use Rattle.aeth_book.proofs.making.masks_of.Given as goal

-- The masks so far.
abbrev pub invariant-loop-i : goal.invariant-loop-i
invariant-loop-i l = record {
  count : length l.masks.items ≡ l._i;
  empty : All (λ (mask : Slots). mask ≡ record { size = l.size; slots = [] }) l.masks.items;
}
