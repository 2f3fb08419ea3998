use Rattle.std.proofs.Common.{ap}
use Rattle.aeth_router.specs.TableRouter.{TableRouterState}
use Rattle.aeth_router.proofs.table_router.driving.TableRouterClocked.latch.Goals as goal

-- The incoming links are links.
pub take_in-self-inside-requires-clause-links : goal.take_in-self-inside-requires-clause-links
take_in-self-inside-requires-clause-links c =
    rw (c.deref.ensures.value, ap (λ (router : TableRouterState). router.incoming) c.self.view_is)
    c.requires
