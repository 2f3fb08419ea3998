use Rattle.aeth_clocked.proofs.OrderLemmas.{IsOrder-rotation_of}
use Rattle.aeth_clocked.proofs.order.Order.rotation.Goals as goal

-- A rotation is an order.
pub invariant_of-result : goal.invariant_of-result
invariant_of-result c =
    rw c.in_ok-numbers.ensures
    (IsOrder-rotation_of c.args.count c.args.turn c.ranges.count.fits c.requires)
