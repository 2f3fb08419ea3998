use Rattle.aeth_chip.proofs.WireLemmas.{wire_at-apart, wire_in_chip}
use Rattle.aeth_chip.proofs.laws.wires.Goals as goal

pub returns : goal.returns
returns c = record {
  below = wire_in_chip;
  apart = λ chip is_chip link other place behind. wire_at-apart chip.links link other place behind;
}
