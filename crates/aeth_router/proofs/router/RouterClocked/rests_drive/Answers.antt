use Rattle.std.proofs.Common.{ap}
use Rattle.aeth_router.specs.Router.{RouterState}
use Rattle.aeth_router.proofs.RestingLemmas.{RestsDrive-router, rests-empty}
use Rattle.aeth_router.proofs.router.RouterClocked.rests_drive.Goals as goal

-- The outgoing links are links.
pub are_empty-requires : goal.are_empty-requires
are_empty-requires c =
    rw (c.deref.ensures.value, ap (λ (router : RouterState). router.outgoing) c.self.view_is)
    c.requires

-- A router without flits rests just where its outgoing links are empty.
pub returns-then-holds_none : goal.returns-then-holds_none
returns-then-holds_none c =
    rests-empty (RestsDrive-router c.args.self.now c.args.wires.now c.args._cycle)
    (c.holds_none.ensures.0 c.if-holds_none.true)
    (rw (c.deref.ensures.value, ap (λ (router : RouterState). router.outgoing) c.self.view_is)
    at c.are_empty.ensures)
