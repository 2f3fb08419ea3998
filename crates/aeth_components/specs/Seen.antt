-- What components latched last is on the wires: between cycles routers and stages hold what their incoming wires
-- have, and interfaces tell of it. So it is seen there, and not kept a second time.
--
-- A cycle walks once over the wires with a flit. Interfaces latch theirs. Routers and stages pass
-- theirs on to a second set of wires, and then the two sets change places. So the work of a cycle
-- is in the number of its flits. The order of components that a caller gives over isn't followed:
-- each gives the same.
--
--   seen, all_seen      a component, and all, with what the wires have
--   interfaces_driven, interfaces_latched      the components once the interfaces among them have driven, or latched
--   landed, flits_landed      once those have latched to which a flit comes
--   taken_of      the components and channels up to where flits land
--
-- Components whose state is read off the wires: this project's own.
use Rattle.std.proofs.Common.{ℕ, List, Option, None, Some, map}
use Rattle.aeth_clocked.specs.{declared.flit.Flit.Flit, Wires.flit_on}
use Rattle.aeth_ni.specs.{Component.absorbed, Component.arrival_of, Component.interface_absorb}
use Rattle.aeth_ni.specs.{Component.interface_after, Component.last_of, Interface.InterfaceState}
use Rattle.aeth_router.specs.Router.{router_absorb}
use Rattle.aeth_router.specs.Stage.{stage_absorb}
use Rattle.aeth_router.specs.TableRouter.{table_absorb}
use Rattle.aeth_router.specs.declared.part.Part.{Part}
use Rattle.aeth_router.specs.declared.part.Part.TheVariants.{Interface, Router, Stage, TableRouter}
use Rattle.aeth_components.specs.{declared.event.Event.Event, Changes.on_interface}
use Rattle.aeth_components.specs.{Components.ready_of, Phases.Moment, Phases.in_turn, Phases.pulled}

-- An interface tells of what these wires have where it receives; a router or a stage holds that.
abbrev pub seen : List (Option Flit) → Part → Part
seen wires (Interface ni) =
    Interface (record ni { last = last_of (arrival_of (flit_on wires ni.entering.0)) })
seen wires (Router router) = Router (router_absorb router wires)
seen wires (TableRouter router) = TableRouter (table_absorb router wires)
seen wires (Stage stage) = Stage (stage_absorb stage wires)

abbrev pub all_seen : List (Option Flit) → List Part → List Part
all_seen wires parts = map (seen wires) parts

-- The interfaces among components have driven, and no other has changed.
abbrev pub interfaces_driven : ℕ → List Part → List Part
interfaces_driven cycle parts = map (on_interface (λ ni. interface_after ni cycle)) parts

-- They have latched, and no other has changed.
abbrev pub interfaces_latched : List (Option Flit) → List Part → List Part
interfaces_latched wires parts = map (on_interface (λ ni. interface_absorb ni wires)) parts

-- An interface has latched where a flit comes to it, and else is as it was.
abbrev pub landed : Option Flit → InterfaceState → InterfaceState
landed None ni = ni
landed (Some flit) ni = absorbed (arrival_of (Some flit)) ni

-- So have the interfaces to which these wires have a flit, and no other component has changed.
abbrev pub flits_landed : List (Option Flit) → List Part → List Part
flits_landed wires parts =
    map (on_interface (λ ni. landed (flit_on wires ni.entering.0) ni)) parts

-- The components and channels up to where flits land, where just the interfaces among the components drive.
abbrev pub taken_of : List ℕ → List Event → ℕ → Moment → Moment
taken_of words events cycle moment =
    let ready = ready_of words events cycle moment in
    in_turn (pulled cycle) (record ready { parts = interfaces_driven cycle ready.parts })
