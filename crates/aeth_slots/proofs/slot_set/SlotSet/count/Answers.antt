use Rattle.aeth_slots.proofs.{Masks.view-set, Counts.view-count}
use Rattle.aeth_slots.proofs.slot_set.SlotSet.count.Goals as goal

-- The ones are as many as their list is long.
pub returns-clause-count : goal.returns-clause-count
returns-clause-count c =
    view-count c.self.inside.size c.self.inside.mask c.args.self.now c.self.view_is
    c.self.invariant.below

-- The model's invariant, said of the value.
pub returns-clause-set : goal.returns-clause-set
returns-clause-set c =
    view-set c.self.inside.size c.self.inside.mask _ c.self.view_is c.self.invariant.some_size
    c.self.invariant.within
