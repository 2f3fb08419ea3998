use Rattle.std.proofs.Common.{All, Option, subst}
use Rattle.aeth_components.specs.Entering.{TakesRows}
use Rattle.aeth_running.specs.Routing.{Entering, Routing, later_rows}
use Rattle.aeth_network.specs.Routes.{routing_in}
use Rattle.aeth_network.proofs.routing.enter.Goals as goal

-- The rows of these tables can enter.
pub enter-requires-clause-takes : goal.enter-requires-clause-takes
enter-requires-clause-takes c =
    subst (λ (tables : Option Routing). All (λ (entering : Entering).
    All (TakesRows entering.rows) c.args.components.now.parts) (later_rows (routing_in tables)))
    c.in-Some.is c.requires.takes
