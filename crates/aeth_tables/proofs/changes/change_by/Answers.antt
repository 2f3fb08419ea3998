use Rattle.std.proofs.Common.{arith}
use Rattle.aeth_tables.proofs.ChangeLaws.{few_slots}
use Rattle.aeth_tables.proofs.changes.change_by.Goals as goal

-- A table has few slots.
pub overflow_add-result : goal.overflow_add-result
overflow_add-result c = omega (arith, few_slots _ c.count.ensures.set, c.count.ensures.count)

pub overflow_add-result-2 : goal.overflow_add-result-2
overflow_add-result-2 c = omega (arith, few_slots _ c.count-2.ensures.set, c.count-2.ensures.count)

pub overflow_add-result-3 : goal.overflow_add-result-3
overflow_add-result-3 c = omega (
  arith,
  few_slots _ c.count.ensures.set,
  c.count.ensures.count,
  few_slots _ c.count-2.ensures.set,
  c.count-2.ensures.count,
)

-- So there are few writes.
pub returns-clause-few : goal.returns-clause-few
returns-clause-few c = omega (
  arith,
  few_slots _ c.count.ensures.set,
  c.count.ensures.count,
  few_slots _ c.count-2.ensures.set,
  c.count-2.ensures.count,
)
