use Rattle.aeth_order.proofs.SortedLemmas.{others-remove}
use Rattle.aeth_order.proofs.sorted.take_out.Goals as goal

-- All others are left.
pub returns-in-Some-clause-others : goal.returns-in-Some-clause-others
returns-in-Some-clause-others c =
    rw c.remove.ensures.items
    (others-remove c.args.unit c.args.order.now.items c.in-Some.at
    (rw c.deref.ensures.value at c.in-Some.ensures.within)
    (rw c.deref.ensures.value at c.in-Some.ensures.unit))
