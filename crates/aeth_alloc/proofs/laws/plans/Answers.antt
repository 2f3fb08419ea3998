use Rattle.aeth_alloc.proofs.PlanLemmas.{allocation-accepted, allocation-bare, allocation-lacks}
use Rattle.aeth_alloc.proofs.PlanOfLemmas.{allocation-plan_of}
use Rattle.aeth_alloc.proofs.laws.plans.Goals as goal

-- Its lines name what there is, and stand in order.
pub returns-clause-is_plan : goal.returns-clause-is_plan
returns-clause-is_plan c = allocation-plan_of

-- Each rule but one holds of the plan of the last state, and that one but for refused units.
pub returns-clause-lacks : goal.returns-clause-lacks
returns-clause-lacks c = allocation-lacks

-- Nothing of a refused unit was left behind in its turn, and it had no other.
pub returns-clause-refused : goal.returns-clause-refused
returns-clause-refused c = allocation-bare

-- With no refusal the last rule holds too.
pub returns-clause-accepted : goal.returns-clause-accepted
returns-clause-accepted c = allocation-accepted
