use Rattle.aeth_chip.proofs.FileLemmas.{chip_of-kept}
use Rattle.aeth_chip.proofs.laws.files.Goals as goal

pub returns : goal.returns
returns c = chip_of-kept
