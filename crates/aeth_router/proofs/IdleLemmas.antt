-- Laws of routers that hold no flit, which a network need not step.
use Rattle.std.proofs.Common.{◌≡◌, ℕ, zero, suc, refl, ap, ◌∙◌, List, [], ◌∷◌, length, map}
use Rattle.std.proofs.Common.{replicate, slice_get, Option, Some, None, ◌==◌, option_and_then}
use Rattle.std.proofs.Common.{position}
use Rattle.aeth_clocked.specs.{declared.flit.Flit.Flit, Resting.HasNoFlit, Wires.Drives}
use Rattle.aeth_clocked.specs.{Wires.flit_on}
use Rattle.aeth_router.specs.{Ports.flits_for, Ports.sole, Router.emitted_on, Router.is_among}
use Rattle.aeth_router.proofs.LinkLemmas.{is_among-at}

-- Where none is held, there is no flit for a port.
flits_for-idle : (port count : ℕ) → flits_for port (replicate count None) ≡ []
flits_for-idle port zero = refl
flits_for-idle port (suc count) = flits_for-idle port count

-- So none is on it, be it a port or not.
sole-idle : (count : ℕ) (port : Option ℕ)
    → option_and_then (λ port. sole (flits_for port (replicate count None))) port ≡ None
sole-idle count None = refl
sole-idle count (Some port) = ap sole (flits_for-idle port count)

-- A router that holds no flit emits none.
pub emitted_on-idle : (outgoing : List ℕ) (count link : ℕ)
    → emitted_on outgoing (replicate count None) link ≡ None
emitted_on-idle outgoing count link =
    sole-idle count (position (λ other. other == link) outgoing)

-- Links on which nothing is emitted are just empty.
pub Drives-silent : (links : List ℕ) (emit : ℕ → Option Flit) (old new : List (Option Flit))
    → ((link : ℕ) → emit link ≡ None) → Drives (is_among links) (λ _. None) old new
    → Drives (is_among links) emit old new
Drives-silent links emit old new silent drives =
    record {
      links = drives.links;
      at = λ link within. rw (silent link) (drives.at link within);
    }

-- So are the outgoing links of a router that holds no flit.
pub Drives-cleared : (outgoing : List ℕ) (held : List (Option Flit)) (old new : List (Option Flit))
    → held ≡ replicate (length held) None
    → Drives (is_among outgoing) (λ _. None) old new
    → Drives (is_among outgoing) (emitted_on outgoing held) old new
Drives-cleared outgoing held old new idle drives =
    Drives-silent outgoing (emitted_on outgoing held) old new (λ link.
    ap (λ held. emitted_on outgoing held link) idle
    ∙ emitted_on-idle outgoing (length held) link) drives

-- Where all these wires are empty, no flit is taken in.
flits-none : (links : List ℕ) (wires : List (Option Flit))
    → ((place link : ℕ) → slice_get links place ≡ Some link → flit_on wires link ≡ None)
    → map (flit_on wires) links ≡ replicate (length links) None
flits-none [] wires empty = refl
flits-none (link ∷ links) wires empty =
    rw (empty 0 link refl, flits-none links wires (λ place. empty (suc place))) refl

-- So a router has none then from the wires on which it receives.
pub HasNoFlit-map : (links : List ℕ) (wires : List (Option Flit))
    → HasNoFlit (is_among links) wires
    → map (flit_on wires) links ≡ replicate (length links) None
HasNoFlit-map links wires empty =
    flits-none links wires (λ place link at. empty link (is_among-at links place link at))
