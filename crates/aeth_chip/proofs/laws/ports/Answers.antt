use Rattle.aeth_chip.{specs.Nodes.begins_at, proofs.NodeLemmas.numbers_from-once}
use Rattle.aeth_chip.proofs.laws.ports.Goals as goal

pub returns : goal.returns
returns c = λ links node port other link.
    numbers_from-once (begins_at node) 0 links port other link
