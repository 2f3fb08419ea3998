use Rattle.std.proofs.Common.{arith}
use Rattle.aeth_seats.proofs.laws.queues.Goals as goal

-- A position is below the number of queues of a seat.
pub returns-clause-apart : goal.returns-clause-apart
returns-clause-apart c = λ seat seat' position position' low low' same. (omega arith, omega arith)

pub returns-clause-within : goal.returns-clause-within
returns-clause-within c = λ seat position low below. omega arith
