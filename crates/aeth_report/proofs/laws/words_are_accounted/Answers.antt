use Rattle.aeth_report.proofs.RegularLemmas.{channel-accounted}
use Rattle.aeth_report.proofs.laws.words_are_accounted.Goals as goal

-- No two sessions of a channel accept one word.
pub returns : goal.returns
returns c run sound channel = channel-accounted run channel sound
