use Rattle.aeth_stimuli.proofs.SessionOrder.{sessions-ordered}
use Rattle.aeth_stimuli.proofs.laws.sessions_are_apart.Goals as goal

-- Switches are apart.
pub returns : goal.returns
returns c = sessions-ordered
