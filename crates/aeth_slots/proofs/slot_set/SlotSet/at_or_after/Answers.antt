use Rattle.std.proofs.Common.{arith}
use Rattle.aeth_slots.proofs.Masks.{mask_width}
use Rattle.aeth_slots.proofs.Lookups.{none_past, none_left, next_slot_found}
use Rattle.aeth_slots.proofs.slot_set.SlotSet.at_or_after.Goals as goal

-- Past the table there is no slot.
pub returns-then-slot-self-clause-none : goal.returns-then-slot-self-clause-none
returns-then-slot-self-clause-none c =
    none_past c.self.inside.size c.self.inside.mask c.args.slot c.args.self.now c.self.view_is
    (omega arith)

-- Nothing is left of the mask.
pub returns-then-rest-eq0-clause-none : goal.returns-then-rest-eq0-clause-none
returns-then-rest-eq0-clause-none c =
    none_left c.self.inside.size c.self.inside.mask c.args.slot c.args.self.now c.self.view_is
    (omega arith)

-- The lowest one of what is left.
pub returns-clause-some : goal.returns-clause-some
returns-clause-some c =
    next_slot_found mask_width c.self.inside.size c.self.inside.mask c.args.slot c.args.self.now
    c.self.view_is c.self.invariant.below c.self.invariant.within (omega arith)
