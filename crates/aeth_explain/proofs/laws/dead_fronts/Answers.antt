use Rattle.aeth_explain.proofs.RefusalLemmas.{front-dead}
use Rattle.aeth_explain.proofs.laws.dead_fronts.Goals as goal

-- Dead links stay dead.
pub returns : goal.returns
returns c = front-dead
