-- The meanings of a component of any kind.
-- This project's own.
use Rattle.std.proofs.Common.{ℕ, Bool, List, Option}
use Rattle.aeth_clocked.specs.{Stepped.Meaning, declared.flit.Flit.Flit}
use Rattle.aeth_ni.specs.Component.{interface_outputs, interface_inputs, interface_emit}
use Rattle.aeth_ni.specs.Component.{interface_after, interface_absorb}
use Rattle.aeth_router.specs.Router.{router_outputs, router_inputs, router_emit, router_after}
use Rattle.aeth_router.specs.Router.{router_absorb}
use Rattle.aeth_router.specs.Stage.{stage_outputs, stage_inputs, stage_emit, stage_after}
use Rattle.aeth_router.specs.Stage.{stage_absorb}
use Rattle.aeth_router.specs.declared.part.Part.{Part}
use Rattle.aeth_router.specs.declared.part.Part.TheVariants.{Interface, Router, Stage, TableRouter}
use Rattle.aeth_router.specs.TableRouter.{table_outputs, table_inputs, table_emit, table_after}
use Rattle.aeth_router.specs.TableRouter.{table_absorb}

-- Whether a component sends on a wire.
abbrev pub outputs_of : Part → ℕ → Bool
outputs_of (Interface ni) = interface_outputs ni
outputs_of (Router router) = router_outputs router
outputs_of (TableRouter router) = table_outputs router
outputs_of (Stage stage) = stage_outputs stage

-- Whether it receives on a wire.
abbrev pub inputs_of : Part → ℕ → Bool
inputs_of (Interface ni) = interface_inputs ni
inputs_of (Router router) = router_inputs router
inputs_of (TableRouter router) = table_inputs router
inputs_of (Stage stage) = stage_inputs stage

-- What it emits in a cycle on a wire.
abbrev pub emit_of : Part → ℕ → ℕ → Option Flit
emit_of (Interface ni) = interface_emit ni
emit_of (Router router) = router_emit router
emit_of (TableRouter router) = table_emit router
emit_of (Stage stage) = stage_emit stage

-- What is left behind that.
abbrev pub after_of : Part → ℕ → Part
after_of (Interface ni) cycle = Interface (interface_after ni cycle)
after_of (Router router) cycle = Router (router_after router cycle)
after_of (TableRouter router) cycle = TableRouter (table_after router cycle)
after_of (Stage stage) cycle = Stage (stage_after stage cycle)

-- What it is once it has latched wires.
abbrev pub absorb_of : Part → List (Option Flit) → Part
absorb_of (Interface ni) wires = Interface (interface_absorb ni wires)
absorb_of (Router router) wires = Router (router_absorb router wires)
absorb_of (TableRouter router) wires = TableRouter (table_absorb router wires)
absorb_of (Stage stage) wires = Stage (stage_absorb stage wires)

-- These meanings together.
abbrev pub part_meaning : Meaning Part
part_meaning = record {
  outputs = outputs_of;
  inputs = inputs_of;
  emit = emit_of;
  after = after_of;
  absorb = absorb_of;
}
