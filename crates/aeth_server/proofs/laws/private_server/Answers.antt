use Rattle.aeth_server.proofs.PrivateServerLemmas.{counts-none, steps}
use Rattle.aeth_server.proofs.laws.private_server.Goals as goal

-- Nothing is done before the first cycle.
pub returns-clause-first : goal.returns-clause-first
returns-clause-first c = counts-none

-- And each cycle does as its equations say.
pub returns-clause-step : goal.returns-clause-step
returns-clause-step c = steps
