use Rattle.aeth_order.proofs.LeastLemmas.{next-is_next, next-none}
use Rattle.aeth_order.proofs.laws.turns.Goals as goal

-- None that waits comes before it.
pub returns-clause-next : goal.returns-clause-next
returns-clause-next c = next-is_next

-- A list that isn't empty has a first.
pub returns-clause-none : goal.returns-clause-none
returns-clause-none c = next-none
