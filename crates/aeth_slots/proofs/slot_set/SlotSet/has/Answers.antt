use Rattle.aeth_slots.proofs.Masks.{view-has}
use Rattle.aeth_slots.proofs.slot_set.SlotSet.has.Goals as goal

-- The test of the slot's bit.
pub returns : goal.returns
returns c =
    view-has c.self.inside.size c.self.inside.mask c.args.slot c.args.self.now c.self.view_is
    c.requires
