use Rattle.aeth_seats.proofs.SeatLemmas.{seats-undone, seats-with_core, seats-without_core}
use Rattle.aeth_seats.proofs.laws.kept.Goals as goal

-- Since the core takes a seat that was free.
pub returns-clause-placed : goal.returns-clause-placed
returns-clause-placed c = seats-with_core

pub returns-clause-taken_back : goal.returns-clause-taken_back
returns-clause-taken_back c = seats-without_core

pub returns-clause-undone : goal.returns-clause-undone
returns-clause-undone c = seats-undone
