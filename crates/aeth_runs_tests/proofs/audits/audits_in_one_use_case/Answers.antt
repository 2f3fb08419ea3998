use Rattle.std.proofs.Common.{refl}
use Rattle.aeth_runs_tests.proofs.OnLiterals.{on_literals}
use Rattle.aeth_runs_tests.proofs.audits.audits_in_one_use_case.Goals as goal

-- By computation.
pub returns-clause-one_connection : goal.returns-clause-one_connection
unfolding on_literals
returns-clause-one_connection c = refl

pub returns-clause-link_with_delay : goal.returns-clause-link_with_delay
unfolding on_literals
returns-clause-link_with_delay c = refl
