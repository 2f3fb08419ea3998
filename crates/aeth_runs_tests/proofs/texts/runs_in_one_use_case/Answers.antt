use Rattle.std.proofs.Common.{refl}
use Rattle.aeth_runs_tests.proofs.OnLiterals.{on_literals}
use Rattle.aeth_runs_tests.proofs.texts.runs_in_one_use_case.Goals as goal

-- By computation.
pub returns-clause-one_connection : goal.returns-clause-one_connection
unfolding on_literals
returns-clause-one_connection c = refl

pub returns-clause-link_with_delay : goal.returns-clause-link_with_delay
unfolding on_literals
returns-clause-link_with_delay c = refl

pub returns-clause-receiver_stalls : goal.returns-clause-receiver_stalls
unfolding on_literals
returns-clause-receiver_stalls c = refl

pub returns-clause-receiver_takes : goal.returns-clause-receiver_takes
unfolding on_literals
returns-clause-receiver_takes c = refl
