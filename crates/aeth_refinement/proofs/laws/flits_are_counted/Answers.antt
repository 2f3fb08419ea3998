use Rattle.aeth_refinement.proofs.Logging.{counts-on}
use Rattle.aeth_refinement.proofs.laws.flits_are_counted.Goals as goal

-- Link by link.
pub returns : goal.returns
returns c = counts-on
