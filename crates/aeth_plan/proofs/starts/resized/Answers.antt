use Rattle.std.proofs.Common.{◌∙◌, ap, arith}
use Rattle.aeth_slots.specs.SlotSet.{Slots}
use Rattle.aeth_plan.proofs.StartLaws.{start_among, start_moves}
use Rattle.aeth_plan.proofs.starts.resized.Goals as goal

-- The start is below the size.
pub insert-requires : goal.insert-requires
insert-requires c =
    let at = start_among c.args.size c.args.set.now.slots c.loop-start.other.slots _ _ _
    c.requires.ascends c.loop-start.invariant.slots c.in-Some.ensures.steps in
    omega (arith, at.2, c.loop-start.invariant.size)

-- It comes after all starts of the set, so it goes to the end.
pub loop-start-preserved : goal.loop-start-preserved
loop-start-preserved c =
    let at = start_among c.args.size c.args.set.now.slots c.loop-start.other.slots _ _ _
    c.requires.ascends c.loop-start.invariant.slots c.in-Some.ensures.steps in
    record {
      size = ap (λ (set : Slots). set.size) c.insert.ensures.set ∙ c.loop-start.invariant.size;
      slots = start_moves c.args.set.now.slots c.loop-start.other.slots _ _ _ _
          c.loop-start.invariant.slots c.in-Some.ensures.steps (c.insert.ensures.last at.0);
    }
