use Rattle.aeth_slots.proofs.{Masks.mask_width, Rotation.turned-mask, Rotation.view-rotated}
use Rattle.aeth_slots.proofs.slot_set.SlotSet.rotate.Goals as goal

-- The parts are cut to the table.
pub invariant_of-result : goal.invariant_of-result
invariant_of-result c =
    turned-mask mask_width c.self.inside.size c.self.inside.mask c.args.by
    c.self.invariant.within c.self.invariant

-- The mask stands for the rotated set.
pub returns : goal.returns
returns c =
    view-rotated mask_width c.self.inside.size c.self.inside.mask c.args.by c.args.self.now
    c.self.view_is c.self.invariant.below c.self.invariant.some_size c.self.invariant.within
