use Rattle.aeth_server.proofs.CreditLoop.{lands-by, landed-due}
use Rattle.aeth_server.proofs.laws.bound.Goals as goal

-- By induction on the words, round the loop of words and credits.
pub returns-clause-lands : goal.returns-clause-lands
returns-clause-lands c = lands-by

pub returns-clause-landed : goal.returns-clause-landed
returns-clause-landed c = landed-due
