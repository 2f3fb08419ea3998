use Rattle.aeth_seats.specs.First.{fixed_of}
use Rattle.aeth_seats.proofs.FirstLemmas.{few-fixed, first-seats, seats-of-app}
use Rattle.aeth_seats.proofs.laws.first.Goals as goal

-- By the counts of cores that are fixed to each interface.
pub returns-clause-seats : goal.returns-clause-seats
returns-clause-seats c = seats-of-app

pub returns-clause-each : goal.returns-clause-each
returns-clause-each c = λ chip app of_chip core.
    first-seats (fixed_of app) (few-fixed chip app of_chip) core
