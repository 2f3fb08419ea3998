use Rattle.aeth_refinement.proofs.Running.{prepared}
use Rattle.aeth_refinement.proofs.laws.components_are_prepared.Goals as goal

-- Channel by channel.
pub returns : goal.returns
returns c = prepared
