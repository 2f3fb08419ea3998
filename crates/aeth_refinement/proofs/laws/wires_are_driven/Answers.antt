use Rattle.aeth_refinement.proofs.Driving.{wires-driven}
use Rattle.aeth_refinement.proofs.laws.wires_are_driven.Goals as goal

-- By the component where the wire starts.
pub returns : goal.returns
returns c = wires-driven
