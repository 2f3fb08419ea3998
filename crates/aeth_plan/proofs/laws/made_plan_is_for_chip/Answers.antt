use Rattle.aeth_plan.proofs.MadePlans.{made_for_chip}
use Rattle.aeth_plan.proofs.laws.made_plan_is_for_chip.Goals as goal

-- The lines are those of the application's cores, and the grants are the same.
pub returns : goal.returns
returns c = made_for_chip
