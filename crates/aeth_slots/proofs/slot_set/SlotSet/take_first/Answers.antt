use Rattle.std.proofs.Common.{refl, arith, ap}
use Rattle.aeth_slots.specs.SlotSet.{Slots}
use Rattle.aeth_slots.proofs.{Masks.mask_width, Lookups.no_slot, Lookups.first_slot_found}
use Rattle.aeth_slots.proofs.slot_set.SlotSet.take_first.Goals as goal

-- The mask 0 has no slot.
pub returns-then-mask-eq0 : goal.returns-then-mask-eq0
returns-then-mask-eq0 c = (
  refl,
  no_slot c.self.inside.size c.self.inside.mask c.args.self.now c.self.view_is
      c.if-mask-eq0.true,
)

-- The list is the lowest one and those of the cleared mask.
pub returns : goal.returns
returns c = (
  ap (λ (v : Slots). v.size) c.self.view_is,
  first_slot_found mask_width c.self.inside.size c.self.inside.mask c.args.self.now c.self.view_is
      c.self.invariant.below c.self.invariant.within (omega arith),
)
