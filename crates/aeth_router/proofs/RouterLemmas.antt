-- Laws of routers: what they emit on a link, and what they hold.
use Rattle.std.proofs.Common.{◌≡◌, ℕ, refl, List, Option, Some, slice_get}
use Rattle.aeth_clocked.specs.declared.flit.Flit.{Flit}
use Rattle.aeth_router.{specs.Ports.flits_for, specs.Ports.sole, specs.Router.AreDistinctLinks}
use Rattle.aeth_router.{specs.Router.emitted_on, proofs.LinkLemmas.position-at}

-- A link has what its port carries.
pub emitted_on-port : (outgoing : List ℕ) (held : List (Option Flit)) (port link : ℕ)
    → AreDistinctLinks outgoing → slice_get outgoing port ≡ Some link
    → emitted_on outgoing held link ≡ sole (flits_for port held)
emitted_on-port outgoing held port link apart at = rw (position-at outgoing port link apart at) refl
