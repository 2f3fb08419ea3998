use Rattle.std.proofs.Common.{ℕ, ◌^◌, ◌<◌, subst}
use Rattle.aeth_slots.proofs.Masks.{IsView, mask_width}
use Rattle.aeth_slots.proofs.MaskSets.{same_size, view-without}
use Rattle.aeth_slots.proofs.slot_set.SlotSet.without.Goals as goal

-- Both masks are of one size.
pub returns : goal.returns
returns c =
    let sizes = same_size _ c.self.inside.mask _ c.other.inside.mask _ _ c.self.view_is
    c.other.view_is c.requires in
    view-without mask_width c.self.inside.size c.self.inside.mask c.other.inside.mask
    c.args.self.now c.args.other.now c.self.invariant.within
    (subst (λ (size : ℕ). c.other.inside.mask < 2 ^ size) sizes c.other.invariant.below)
    c.self.view_is
    (subst (λ (size : ℕ). IsView size c.other.inside.mask c.args.other.now) sizes c.other.view_is)
