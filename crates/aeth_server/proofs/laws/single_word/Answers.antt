use Rattle.aeth_server.proofs.SingleWord.{lands-alone}
use Rattle.aeth_server.proofs.laws.single_word.Goals as goal

-- A slot comes within the gap.
pub returns : goal.returns
returns c = lands-alone
