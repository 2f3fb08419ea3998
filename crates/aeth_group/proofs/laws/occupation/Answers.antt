use Rattle.aeth_group.proofs.OccupationLemmas.{occupies-Decides}
use Rattle.aeth_group.proofs.laws.occupation.Goals as goal

-- By the walk along the path.
pub returns : goal.returns
returns c = occupies-Decides
