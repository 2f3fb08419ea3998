-- What never changes of a component, and what holds of the wirings of every network.
-- This project's own.
use Rattle.std.proofs.Common.{◌≡◌, ◌<◌, ℕ, ◌==◌, Bool, true, List, length, All, Some, slice_get}
use Rattle.std.specs.Prelude.{⊤}
use Rattle.aeth_base.specs.declared.ids.{LinkId.LinkId, NiId.NiId}
use Rattle.aeth_clocked.specs.{Driven.AreDisjoint, Wires.AreLinks}
use Rattle.aeth_router.specs.Router.{AreDistinctLinks, is_among}
use Rattle.aeth_router.specs.declared.part.Part.{Part}
use Rattle.aeth_router.specs.declared.part.Part.TheVariants.{Interface, Router, Stage, TableRouter}

-- What never changes of a component: of an interface its number, its wires and its numbers of
-- slots and of queues, of a router and of a stage the wires.
pub data Wiring : Type 0 where
  InterfaceWiring : (number : NiId) (leaving entering : LinkId) (slots queues : ℕ) → Wiring
  RouterWiring : (incoming outgoing : List ℕ) → Wiring
  StageWiring : (input output : LinkId) → Wiring

abbrev pub wiring_of : Part → Wiring
wiring_of (Interface ni) =
    InterfaceWiring ni.number ni.leaving ni.entering (length ni.entries) (length ni.queues)
wiring_of (Router router) = RouterWiring router.incoming router.outgoing
wiring_of (TableRouter router) = RouterWiring router.incoming router.outgoing
wiring_of (Stage stage) = StageWiring stage.input stage.output

-- Whether a component with this wiring sends on a wire.
abbrev pub sends_by : Wiring → ℕ → Bool
sends_by (InterfaceWiring number leaving entering slots queues) wire = leaving.0 == wire
sends_by (RouterWiring incoming outgoing) wire = is_among outgoing wire
sends_by (StageWiring input output) wire = output.0 == wire

-- Whether it receives on a wire.
abbrev pub receives_by : Wiring → ℕ → Bool
receives_by (InterfaceWiring number leaving entering slots queues) wire = entering.0 == wire
receives_by (RouterWiring incoming outgoing) wire = is_among incoming wire
receives_by (StageWiring input output) wire = input.0 == wire

-- A component receives on no wire twice.
abbrev pub AreInputsApart : Wiring → Type 0
AreInputsApart (InterfaceWiring number leaving entering slots queues) = ⊤
AreInputsApart (RouterWiring incoming outgoing) = AreDistinctLinks incoming
AreInputsApart (StageWiring input output) = ⊤

-- Components send and receive on wires, and on each wire just one sends.
pub record IsWired (wirings : List Wiring) (wires : ℕ) : Type 0 where
  pub outputs : All (λ wiring. AreLinks (sends_by wiring) wires) wirings
  pub inputs : All (λ wiring. AreLinks (receives_by wiring) wires) wirings
  pub disjoint : AreDisjoint sends_by wirings
  pub owned : (wire : ℕ) → wire < wires
      → (i : ℕ) × (wiring : Wiring) × (slice_get wirings i ≡ Some wiring)
      × (sends_by wiring wire ≡ true)
