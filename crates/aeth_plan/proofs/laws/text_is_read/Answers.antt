use Rattle.aeth_plan.proofs.PlanAgain.{plan_again}
use Rattle.aeth_plan.proofs.laws.text_is_read.Goals as goal

-- The round trip from a plan.
pub returns : goal.returns
returns c = plan_again
