use Rattle.aeth_refinement.proofs.{Arriving.latches, Holding.latched-absorb}
use Rattle.aeth_refinement.proofs.laws.wires_are_latched.Goals as goal

-- Each component takes up its own.
pub returns-clause-latched : goal.returns-clause-latched
returns-clause-latched c = latches

pub returns-clause-held : goal.returns-clause-held
returns-clause-held c = latched-absorb
