use Rattle.std.proofs.Common.{refl}
use Rattle.aeth_runs_tests.proofs.OnLiterals.{on_literals}
use Rattle.aeth_runs_tests.proofs.chains.chains.Goals as goal

-- By computation.
pub returns-clause-all_land : goal.returns-clause-all_land
unfolding on_literals
returns-clause-all_land c = refl

pub returns-clause-one_is_left : goal.returns-clause-one_is_left
unfolding on_literals
returns-clause-one_is_left c = refl

pub returns-clause-all_are_left : goal.returns-clause-all_are_left
unfolding on_literals
returns-clause-all_are_left c = refl

pub returns-clause-one_leg : goal.returns-clause-one_leg
unfolding on_literals
returns-clause-one_leg c = refl

pub returns-clause-least_rate_is_later : goal.returns-clause-least_rate_is_later
unfolding on_literals
returns-clause-least_rate_is_later c = refl
