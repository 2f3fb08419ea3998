use Rattle.std.proofs.Common.{arith}
use Rattle.aeth_order.proofs.keys.UnitKeys.of.Goals as goal

-- A need is at most the size of a table.
pub overflow_add-result : goal.overflow_add-result
overflow_add-result c =
    let few = c.slots-slots.ensures.app.slots in
    omega (arith, few, c.need.ensures.most, c.need-2.ensures.most)
