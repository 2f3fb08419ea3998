use Rattle.aeth_server.proofs.AloneStates.{state-first, state-next, lands-next}
use Rattle.aeth_server.proofs.laws.alone_state.Goals as goal

-- Nothing is under way before the first cycle.
pub returns-clause-first : goal.returns-clause-first
returns-clause-first c = state-first

-- No flit is under way for longer than the memory lasts.
pub returns-clause-next : goal.returns-clause-next
returns-clause-next c = state-next

pub returns-clause-lands : goal.returns-clause-lands
returns-clause-lands c = lands-next
