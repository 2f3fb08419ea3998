use Rattle.aeth_alloc.proofs.LastStateLemmas.{none-waits-last}
use Rattle.aeth_alloc.proofs.laws.turns.Goals as goal

-- Each turn takes one of those that wait.
pub returns : goal.returns
returns c = none-waits-last
