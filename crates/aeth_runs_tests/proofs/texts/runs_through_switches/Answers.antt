use Rattle.std.proofs.Common.{refl}
use Rattle.aeth_runs_tests.proofs.OnLiterals.{on_literals}
use Rattle.aeth_runs_tests.proofs.texts.runs_through_switches.Goals as goal

-- By computation.
pub returns-clause-connection_opened : goal.returns-clause-connection_opened
unfolding on_literals
returns-clause-connection_opened c = refl

pub returns-clause-connection_closed : goal.returns-clause-connection_closed
unfolding on_literals
returns-clause-connection_closed c = refl

pub returns-clause-switches_past_the_end : goal.returns-clause-switches_past_the_end
unfolding on_literals
returns-clause-switches_past_the_end c = refl
