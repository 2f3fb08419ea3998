use Rattle.aeth_report.proofs.RunRows.{alone_words}
use Rattle.aeth_report.proofs.laws.single_words_land.Goals as goal

-- A slot comes within the gap.
pub returns : goal.returns
returns c = alone_words
