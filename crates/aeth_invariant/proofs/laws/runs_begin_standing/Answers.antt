use Rattle.aeth_invariant.proofs.Whole.{begun}
use Rattle.aeth_invariant.proofs.laws.runs_begin_standing.Goals as goal

-- All counts are 0.
pub returns : goal.returns
returns c = begun
