use Rattle.aeth_stimuli.proofs.WordPlaces.{values-placed, words-placed}
use Rattle.aeth_stimuli.proofs.laws.words_are_placed.Goals as goal

-- Channels have places apart, and the sessions of one channel accept words one after the other.
pub returns-clause-places : goal.returns-clause-places
returns-clause-places c = words-placed

pub returns-clause-values : goal.returns-clause-values
returns-clause-values c = values-placed
