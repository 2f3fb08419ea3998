use Rattle.std.proofs.Common.{ap}
use Rattle.aeth_router.specs.Router.{RouterState}
use Rattle.aeth_router.proofs.router.RouterClocked.latch.Goals as goal

-- The incoming links are links.
pub take_in-self-inside-requires-clause-links : goal.take_in-self-inside-requires-clause-links
take_in-self-inside-requires-clause-links c =
    rw (c.deref.ensures.value, ap (λ (router : RouterState). router.incoming) c.self.view_is)
    c.requires
