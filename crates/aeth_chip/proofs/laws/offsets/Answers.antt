use Rattle.aeth_chip.proofs.OffsetLemmas.{delay_of-range, offset-more, offset-most, offset-zero}
use Rattle.aeth_chip.proofs.laws.offsets.Goals as goal

pub returns : goal.returns
returns c = record {
  first = offset-zero;
  more = offset-more;
  delay = λ chip is_chip link within. delay_of-range chip link is_chip within;
  most = offset-most;
}
