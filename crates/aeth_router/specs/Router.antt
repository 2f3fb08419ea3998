-- A router: its state, what it emits, and what it latches.
--
--   RouterState, IsRouter          the state, and what holds of every one
--   IsNoted                        what a router notes of the flits that it holds
--   last_wire, entering_wires      where a link ends, and where those of a router do
--   new_router                     the state at first
--   emitted_on, emptied, absorbed  what is on an outgoing link, and what is left and held then
--   router_outputs and its kin     the meanings of a router as a component
--
-- Routers that forward by one hop in a cycle: after Æthereal (2005).
use Rattle.std.proofs.Common.{◌≡◌, ℕ, ◌-◌, ◌==◌, Bool, false, Option, Some, None, option_and_then}
use Rattle.std.proofs.Common.{List, length, map, replicate, slice_get, position}
use Rattle.std.specs.List.{list_any}
use Rattle.aeth_base.specs.declared.ids.{LinkId.LinkId, RouterId.RouterId}
use Rattle.aeth_chip.specs.{Nodes.receives_on, Nodes.sends_on, Paths.delay_of, Wires.wire_at}
use Rattle.aeth_chip.specs.{declared.node.Link.Link, declared.node.Node.TheVariants.Router}
use Rattle.aeth_clocked.specs.{Wires.flit_on, declared.flit.Flit.Flit}
use Rattle.aeth_router.specs.Ports.{flits_for, sole}

-- A router: the numbers of the wires on which it receives, those of the links on which it sends,
-- which are its ports, and the flit or none that it holds from each wire on which it receives.
pub record RouterState : Type 0 where
  pub incoming : List ℕ
  pub outgoing : List ℕ
  pub held : List (Option Flit)

-- No link stands at two places of the list.
abbrev pub AreDistinctLinks : List ℕ → Type 0
AreDistinctLinks links = (i j link : ℕ) → slice_get links i ≡ Some link → slice_get links j ≡ Some link
    → i ≡ j

-- What holds of every router.
pub record IsRouter (router : RouterState) : Type 0 where
  pub places : length router.held ≡ length router.incoming
  pub apart : AreDistinctLinks router.outgoing

-- What is noted of a router: where no flit is noted, none is held.
pub record IsNoted (is_holding : Bool) (router : RouterState) : Type 0 where
  pub sound : IsRouter router
  pub idle : is_holding ≡ false → router.held ≡ replicate (length router.held) None

-- The numbers of links.
abbrev pub numbers_of : List LinkId → List ℕ
numbers_of links = map (λ link. link.0) links

-- The last wire of a link, by their numbers: the one that reaches its far end.
abbrev pub last_wire : List Link → ℕ → ℕ
last_wire links number = wire_at links number (delay_of links (record { 0 = number }) - 1)

-- The last wires of the links on which a router receives.
abbrev pub entering_wires : RouterId → List Link → List ℕ
entering_wires router links = map (last_wire links) (receives_on (Router router) links)

-- The router of this number among these links, which holds no flit.
abbrev pub new_router : RouterId → List Link → RouterState
new_router router links = record {
  incoming = entering_wires router links;
  outgoing = sends_on (Router router) links;
  held = replicate (length (entering_wires router links)) None;
}

-- Whether a link is one of these.
abbrev pub is_among : List ℕ → ℕ → Bool
is_among links link = list_any (λ other. other == link) links

-- What is emitted on a link by a router that sends on these links and holds these flits: the one
-- flit for the link's port; nothing where there is none for it, or more than one.
abbrev pub emitted_on : List ℕ → List (Option Flit) → ℕ → Option Flit
emitted_on outgoing held link =
    let port = position (λ other. other == link) outgoing in
    option_and_then (λ port. sole (flits_for port held)) port

-- The router without the flits that it held.
abbrev pub emptied : RouterState → RouterState
emptied router = record router { held = replicate (length router.held) None }

-- The router that holds what these wires have where it receives.
abbrev pub absorbed : List (Option Flit) → RouterState → RouterState
absorbed wires router = record router { held = map (flit_on wires) router.incoming }

-- A router sends on its outgoing links.
abbrev pub router_outputs : RouterState → ℕ → Bool
router_outputs router link = is_among router.outgoing link

-- It receives on its incoming wires.
abbrev pub router_inputs : RouterState → ℕ → Bool
router_inputs router link = is_among router.incoming link

-- In every cycle it emits what its ports carry.
abbrev pub router_emit : RouterState → ℕ → ℕ → Option Flit
router_emit router cycle link = emitted_on router.outgoing router.held link

-- Behind that it holds no flit.
abbrev pub router_after : RouterState → ℕ → RouterState
router_after router cycle = emptied router

-- It holds what these wires have on its incoming ones.
abbrev pub router_absorb : RouterState → List (Option Flit) → RouterState
router_absorb router wires = absorbed wires router
