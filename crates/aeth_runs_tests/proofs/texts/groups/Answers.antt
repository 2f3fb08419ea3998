use Rattle.std.proofs.Common.{refl}
use Rattle.aeth_runs_tests.proofs.OnLiterals.{on_literals}
use Rattle.aeth_runs_tests.proofs.texts.groups.Goals as goal

-- By computation.
pub returns-clause-one : goal.returns-clause-one
unfolding on_literals
returns-clause-one c = refl

pub returns-clause-two : goal.returns-clause-two
unfolding on_literals
returns-clause-two c = refl
