use Rattle.aeth_check.proofs.AcceptedLaws.{accepts}
use Rattle.aeth_check.proofs.laws.verdicts.Goals as goal

-- Each rule fails exactly where its fact doesn't hold.
pub returns : goal.returns
returns c = accepts
