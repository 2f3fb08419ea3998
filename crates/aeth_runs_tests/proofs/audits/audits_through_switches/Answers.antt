use Rattle.std.proofs.Common.{refl}
use Rattle.aeth_runs_tests.proofs.OnLiterals.{on_literals}
use Rattle.aeth_runs_tests.proofs.audits.audits_through_switches.Goals as goal

-- By computation.
pub returns-clause-opened : goal.returns-clause-opened
unfolding on_literals
returns-clause-opened c = refl

pub returns-clause-not_opened : goal.returns-clause-not_opened
unfolding on_literals
returns-clause-not_opened c = refl

pub returns-clause-closing : goal.returns-clause-closing
unfolding on_literals
returns-clause-closing c = refl

pub returns-clause-closed : goal.returns-clause-closed
unfolding on_literals
returns-clause-closed c = refl
