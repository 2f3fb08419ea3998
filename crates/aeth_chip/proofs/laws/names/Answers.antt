use Rattle.aeth_chip.proofs.NameLemmas.{find_ni-own}
use Rattle.aeth_chip.proofs.laws.names.Goals as goal

pub returns : goal.returns
returns c = find_ni-own
