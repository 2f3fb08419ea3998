use Rattle.std.proofs.Common.{subst}
use Rattle.aeth_accepted.specs.Inputs.{AreAccepted}
use Rattle.aeth_accepted.proofs.inputs.RunInputs.are_accepted.Goals as goal

-- Each value is accepted.
pub returns : goal.returns
returns c = subst AreAccepted c.self.view_is c.self.invariant.1
