use Rattle.aeth_plan.proofs.PlanReading.{plan_only}
use Rattle.aeth_plan.proofs.laws.plan_is_for_chip.Goals as goal

-- What is read is known.
pub returns : goal.returns
returns c = λ chip app groups bytes plan is. (plan_only chip app groups bytes plan is).1
