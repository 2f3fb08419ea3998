use Rattle.std.proofs.Common.{ℕ, sym, subst}
use Rattle.aeth_slots.proofs.Masks.{IsView, view-same}
use Rattle.aeth_slots.proofs.slot_set.SlotSetPartialEq.eq.Goals as goal

-- Of sets of one size, the masks tell.
pub returns-then-self-other : goal.returns-then-self-other
returns-then-self-other c =
    let sizes = c.if-self-other.true in
    view-same c.self.inside.size c.self.inside.mask c.other.inside.mask c.args.self.now
    c.args.other.now c.self.view_is
    (subst (λ (size : ℕ). IsView size c.other.inside.mask c.args.other.now) (sym sizes)
    c.other.view_is) c.self.invariant.below
    (rw sizes c.other.invariant.below)
