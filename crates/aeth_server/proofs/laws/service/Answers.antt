use Rattle.aeth_server.proofs.ServiceLemmas.{serves-in-full}
use Rattle.aeth_server.proofs.laws.service.Goals as goal

-- The service lemma.
pub returns : goal.returns
returns c = serves-in-full
