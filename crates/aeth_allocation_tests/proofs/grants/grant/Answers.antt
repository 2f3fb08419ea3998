use Rattle.std.proofs.Common.{subst, Contains}
use Rattle.aeth_slots.{specs.SlotSet.Slots, proofs.SlotSetLemmas.Contains-common}
use Rattle.aeth_allocation_tests.proofs.grants.grant.Goals as goal

-- Slots that are free are granted.
pub add-requires-clause-free : goal.add-requires-clause-free
add-requires-clause-free c = λ start has.
    let common = subst (λ (set : Slots). Contains set.slots start) c.meet-slots.ensures has in
    subst (λ (set : Slots). Contains set.slots start) c.free-free.ensures.free
    ((Contains-common c.set_of.result c.free-free.result start).0 common).1
