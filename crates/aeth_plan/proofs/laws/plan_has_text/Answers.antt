use Rattle.aeth_plan.proofs.PlanReading.{plan_only}
use Rattle.aeth_plan.proofs.laws.plan_has_text.Goals as goal

-- The round trip from a text.
pub returns : goal.returns
returns c = λ chip app groups bytes plan is. (plan_only chip app groups bytes plan is).0
