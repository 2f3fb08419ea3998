use Rattle.std.proofs.Common.{arith, ap, ◌∙◌, ◌≡◌}
use Rattle.aeth_slots.{specs.SlotSet.Slots, proofs.Ascending.with_slot-last}
use Rattle.aeth_slots.{proofs.Masks.mask_width, proofs.Masks.view-insert, proofs.Masks.insert-mask}
use Rattle.aeth_slots.proofs.slot_set.SlotSet.insert.Goals as goal

-- The slot is below the size.
pub invariant_of-self : goal.invariant_of-self
invariant_of-self c =
    let sizes : c.self.inside.size ≡ c.args.self.now.size =
    ap (λ (v : Slots). v.size) c.self.view_is in
    insert-mask mask_width c.self.inside.size c.self.inside.mask c.args.slot (omega arith)
    c.self.invariant.within c.self.invariant

-- One bit more is one slot more.
pub returns-clause-set : goal.returns-clause-set
returns-clause-set c =
    view-insert mask_width c.self.inside.size c.self.inside.mask c.args.slot c.args.self.now
    c.self.view_is c.requires c.self.invariant.within

-- Put in at its place, it stands at the end.
pub returns-clause-last : goal.returns-clause-last
returns-clause-last c = λ below.
    ap (λ (v : Slots). v.slots)
    (view-insert mask_width c.self.inside.size c.self.inside.mask c.args.slot c.args.self.now
    c.self.view_is c.requires c.self.invariant.within)
    ∙ with_slot-last 0 c.args.slot c.args.self.now.slots below
