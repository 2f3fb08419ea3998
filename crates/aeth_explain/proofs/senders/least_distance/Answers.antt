use Rattle.aeth_chip.proofs.LeastDistanceLemmas.{distance_is_least_distance}
use Rattle.aeth_explain.proofs.senders.least_distance.Goals as goal

-- There is one least number.
pub returns : goal.returns
returns c =
    distance_is_least_distance c.args._chip.now c.requires.chip c.args.a c.args.b c.between.result
    (rw c.requires.far at c.between.ensures.distance)
