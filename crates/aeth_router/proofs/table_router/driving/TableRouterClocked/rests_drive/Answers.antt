use Rattle.std.proofs.Common.{ap}
use Rattle.aeth_router.specs.TableRouter.{TableRouterState}
use Rattle.aeth_router.proofs.RestingLemmas.{RestsDrive-table, rests-empty}
use Rattle.aeth_router.proofs.table_router.driving.TableRouterClocked.rests_drive.Goals as goal

-- The outgoing links are links.
pub are_empty-requires : goal.are_empty-requires
are_empty-requires c =
    rw (c.deref.ensures.value, ap (λ (router : TableRouterState). router.outgoing) c.self.view_is)
    c.requires

-- A router without flits rests just where its outgoing links are empty.
pub returns-then-holds_none : goal.returns-then-holds_none
returns-then-holds_none c =
    rests-empty (RestsDrive-table c.args.self.now c.args.wires.now c.args._cycle)
    (c.holds_none.ensures.0 c.if-holds_none.true)
    (rw (c.deref.ensures.value, ap (λ (router : TableRouterState). router.outgoing) c.self.view_is)
    at c.are_empty.ensures)
