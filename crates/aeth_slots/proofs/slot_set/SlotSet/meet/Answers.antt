use Rattle.std.proofs.Common.{◌≡◌, ap, sym, ◌∙◌, subst, ℕ}
use Rattle.aeth_slots.{specs.SlotSet.Slots, proofs.Masks.IsView, proofs.Masks.view-common}
use Rattle.aeth_slots.proofs.slot_set.SlotSet.meet.Goals as goal

-- Both masks are of one size.
pub returns : goal.returns
returns c =
    let sizes : c.other.inside.size ≡ c.self.inside.size =
    ap (λ (v : Slots). v.size) c.other.view_is ∙ sym c.requires
    ∙ sym (ap (λ (v : Slots). v.size) c.self.view_is) in
    view-common c.self.inside.size c.self.inside.mask c.other.inside.mask c.args.self.now
    c.args.other.now c.self.view_is
    (subst (λ (size : ℕ). IsView size c.other.inside.mask c.args.other.now) sizes c.other.view_is)
