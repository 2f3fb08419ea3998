use Rattle.std.proofs.Common.{◌≡◌, ap, length, subst}
use Rattle.aeth_router.specs.Router.{RouterState}
use Rattle.aeth_router.proofs.RestingLemmas.{RestsLatch-router, rests-empty, rests-none}
use Rattle.aeth_router.proofs.router.RouterClocked.rests_latch.Goals as goal

-- The incoming links are links.
pub are_empty-requires : goal.are_empty-requires
are_empty-requires c =
    rw (c.deref.ensures.value, ap (λ (router : RouterState). router.incoming) c.self.view_is)
    c.requires

-- A router without flits rests just where its incoming wires are empty.
pub returns-then-holds_none : goal.returns-then-holds_none
returns-then-holds_none c =
    let places = subst (λ (router : RouterState). length router.held ≡ length router.incoming)
    c.self.view_is c.self.invariant.sound.places in
    rests-empty (RestsLatch-router c.args.self.now c.args.wires.now places)
    (c.holds_none.ensures.0 c.if-holds_none.true)
    (rw (c.deref.ensures.value, ap (λ (router : RouterState). router.incoming) c.self.view_is)
    at c.are_empty.ensures)

-- One with flits doesn't.
pub returns-else-holds_none : goal.returns-else-holds_none
returns-else-holds_none c =
    let places = subst (λ (router : RouterState). length router.held ≡ length router.incoming)
    c.self.view_is c.self.invariant.sound.places in
    rests-none (RestsLatch-router c.args.self.now c.args.wires.now places)
    c.if-holds_none.false c.holds_none.ensures
