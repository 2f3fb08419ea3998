use Rattle.aeth_chip.proofs.LeastOnwardLemmas.{distance_is_least_onward, least_onward_is_distance}
use Rattle.aeth_chip.proofs.laws.least_onward.Goals as goal

-- The test of lists decides.
pub returns-clause-least : goal.returns-clause-least
returns-clause-least c = least_onward_is_distance

-- Two least numbers are one.
pub returns-clause-only : goal.returns-clause-only
returns-clause-only c = distance_is_least_onward
