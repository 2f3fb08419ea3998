use Rattle.aeth_command_laws.proofs.ToldLemmas.{simulated}
use Rattle.aeth_command_laws.proofs.laws.simulated_runs.Goals as goal

-- A job of `simulate` that is done stands on accepted inputs that the files told.
pub returns : goal.returns
returns c = simulated c.traced_runs.ensures
