use Rattle.aeth_slots.proofs.{Masks.mask_width, MaskSets.full-mask, MaskSets.view-full}
use Rattle.aeth_slots.proofs.slot_set.SlotSet.full.Goals as goal

-- All ones below the size.
pub invariant_of-result : goal.invariant_of-result
invariant_of-result c =
    full-mask mask_width c.args.size c.requires.some c.requires.within c.requires.within

-- They stand for all slots.
pub returns : goal.returns
returns c = view-full mask_width c.args.size c.requires.within
