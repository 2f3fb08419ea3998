use Rattle.aeth_report.proofs.AlikeLemmas.{same_log}
use Rattle.aeth_report.proofs.laws.channels_are_independent.Goals as goal

-- The private servers of its sessions are the same.
pub returns : goal.returns
returns c = same_log
