use Rattle.aeth_explain.proofs.LeastLemmas.{cuts-ascend, least-open}
use Rattle.aeth_explain.proofs.laws.orders.Goals as goal

-- All lists of a try are in this order.
pub returns-clause-cuts : goal.returns-clause-cuts
returns-clause-cuts c = cuts-ascend

-- The first open path is the least.
pub returns-clause-open : goal.returns-clause-open
returns-clause-open c = least-open
