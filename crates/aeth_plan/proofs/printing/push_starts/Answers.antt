use Rattle.aeth_text.proofs.PrintLaws.{item_step}
use Rattle.aeth_plan.proofs.printing.push_starts.Goals as goal

-- One more start is printed.
pub loop-slot-preserved : goal.loop-slot-preserved
loop-slot-preserved c =
    item_step c.loop-slot.out.items c.push_item.new.out.items c.loop-slot.first _ _ _
    c.in_ok-push_item.ensures.ok (rw c.in-Some.ensures.steps at c.loop-slot.invariant)
