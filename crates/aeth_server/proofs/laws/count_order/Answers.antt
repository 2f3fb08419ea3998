use Rattle.aeth_server.proofs.PrivateServerLemmas.{in-order, has-room, fits-flit, has-grown}
use Rattle.aeth_server.proofs.SessionEnds.{idle-before, is-closed}
use Rattle.aeth_server.proofs.laws.count_order.Goals as goal

-- By induction on the cycles.
pub returns-clause-order : goal.returns-clause-order
returns-clause-order c = in-order

-- What lands was sent for credits of words that were taken before.
pub returns-clause-room : goal.returns-clause-room
returns-clause-room c = has-room

-- By the equations of a cycle.
pub returns-clause-flit : goal.returns-clause-flit
returns-clause-flit c = fits-flit

pub returns-clause-grown : goal.returns-clause-grown
returns-clause-grown c = has-grown

-- No word is accepted before, so by the order nothing is done.
pub returns-clause-idle : goal.returns-clause-idle
returns-clause-idle c = idle-before

-- A cycle after the stop changes nothing.
pub returns-clause-closed : goal.returns-clause-closed
returns-clause-closed c = is-closed
