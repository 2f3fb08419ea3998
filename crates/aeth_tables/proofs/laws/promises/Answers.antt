use Rattle.aeth_tables.proofs.PromiseLaws.{keep_promises}
use Rattle.aeth_tables.proofs.laws.promises.Goals as goal

-- By the laws of rows and shapes.
pub returns : goal.returns
returns c = keep_promises
