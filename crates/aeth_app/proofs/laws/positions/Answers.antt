use Rattle.aeth_app.proofs.PositionLemmas.{position_of-apart, position_of-ascends}
use Rattle.aeth_app.proofs.laws.positions.Goals as goal

-- The earlier connection counts for the later.
pub returns-clause-ascend : goal.returns-clause-ascend
returns-clause-ascend c = position_of-ascends

pub returns-clause-apart : goal.returns-clause-apart
returns-clause-apart c = position_of-apart
