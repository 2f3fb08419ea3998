use Rattle.aeth_slots.proofs.Masks.{view-set}
use Rattle.aeth_slots.proofs.slot_set.SlotSet.size.Goals as goal

-- The model's invariant, said of the value.
pub returns-clause-set : goal.returns-clause-set
returns-clause-set c =
    view-set c.self.inside.size c.self.inside.mask _ c.self.view_is c.self.invariant.some_size
    c.self.invariant.within
