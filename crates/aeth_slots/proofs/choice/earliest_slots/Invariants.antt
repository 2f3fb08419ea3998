use Rattle.std.proofs.Common.{◌≡◌, length}
use Rattle.aeth_base.specs.Limits.{max_slots}
use Rattle.aeth_slots.specs.Ways.{AreEarliest, IsEarliest}
use Rattle.aeth_slots.proofs.choice.earliest_slots.Given as goal

-- The earliest slots over fewer slots than there were turns, and the one over as many.
abbrev pub invariant-loop-most : goal.invariant-loop-most
invariant-loop-most l = record {
  size : length l.slots ≡ max_slots;
  each : AreEarliest l.free.slots l.end l.gap l.most l.slots;
  next : IsEarliest l.free.slots l.end l.gap l.most l.earliest;
}
