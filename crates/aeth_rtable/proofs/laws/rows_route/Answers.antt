use Rattle.aeth_rtable.proofs.TabledSessions.{rows-route}
use Rattle.aeth_rtable.proofs.laws.rows_route.Goals as goal

-- By the use case in force, and by the places of wires on paths.
pub returns : goal.returns
returns c = rows-route
