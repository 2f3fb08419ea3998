use Rattle.aeth_slots.proofs.Gaps.{IsGapSoFar}
use Rattle.aeth_slots.proofs.slot_set.SlotSet.gap.Given as goal

-- The gap up to the last slot, and the slots that are still to come.
abbrev pub invariant-loop-slot : goal.invariant-loop-slot
invariant-loop-slot l = IsGapSoFar l.self l.first l.last l.widest l.slot-iterator
