use Rattle.std.proofs.Common.{◌+◌, arith}
use Rattle.aeth_chip.proofs.MaskLemmas.{high-has, led-halves, low-has}
use Rattle.aeth_chip.specs.Levels.{half_places}
use Rattle.aeth_chip.proofs.levels.leading_to.Goals as goal

-- The places of the halves are those of the set.
pub leading_from-low-requires-clause-places : goal.leading_from-low-requires-clause-places
leading_from-low-requires-clause-places c = λ i has.
    let within = c.requires i (low-has c.args.set i has).1 in omega (arith, within)

pub leading_from-high-requires-clause-places : goal.leading_from-high-requires-clause-places
leading_from-high-requires-clause-places c = λ i has. c.requires (half_places + i) (high-has c.args.set i has)

-- What leads to either half.
pub returns : goal.returns
returns c = λ from.
    led-halves c.args.origins.now c.args.set c.leading_from-low.result c.leading_from-high.result
    from (c.leading_from-low.ensures from) (c.leading_from-high.ensures from)
