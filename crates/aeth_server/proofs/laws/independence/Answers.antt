use Rattle.aeth_server.proofs.PrivateServerLemmas.{counts-alike}
use Rattle.aeth_server.proofs.laws.independence.Goals as goal

-- Equal in each cycle's data, equal in the history.
pub returns : goal.returns
returns c = counts-alike
