use Rattle.aeth_seats.proofs.FreeLemmas.{free-other, free-placed, free-some, some-free}
use Rattle.aeth_seats.proofs.laws.free.Goals as goal

-- Since one seat more is taken there, and none elsewhere.
pub returns-clause-one : goal.returns-clause-one
returns-clause-one c = free-placed

pub returns-clause-others : goal.returns-clause-others
returns-clause-others c = free-other

pub returns-clause-some : goal.returns-clause-some
returns-clause-some c = λ places ni. (some-free places ni, free-some places ni)
