use Rattle.aeth_slots.proofs.Masks.{view-empty}
use Rattle.aeth_slots.proofs.slot_set.SlotSet.empty.Goals as goal

-- The mask 0 has no one.
pub returns : goal.returns
returns c = view-empty c.args.size
