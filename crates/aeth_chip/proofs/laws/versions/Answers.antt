use Rattle.aeth_chip.proofs.VersionLemmas.{chip_of-version_2}
use Rattle.aeth_chip.proofs.laws.versions.Goals as goal

pub returns : goal.returns
returns c = chip_of-version_2
