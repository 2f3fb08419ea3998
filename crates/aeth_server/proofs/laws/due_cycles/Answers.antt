use Rattle.aeth_server.proofs.LandingLemmas.{due-passed, due-in-time, progress-next}
use Rattle.aeth_server.proofs.laws.due_cycles.Goals as goal

-- A quotient that is rounded up is at most a number where the product is.
pub returns-clause-passed : goal.returns-clause-passed
returns-clause-passed c = due-passed

pub returns-clause-in_time : goal.returns-clause-in_time
returns-clause-in_time c = due-in-time

-- By the recursion of finish times.
pub returns-clause-next : goal.returns-clause-next
returns-clause-next c = progress-next
