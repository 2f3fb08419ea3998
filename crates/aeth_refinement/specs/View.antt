-- The components of a network, seen as functions of numbers.
--
--   net_of      the components as a net
--   HaveLatched      routers, of both kinds, and stages hold what the wires have
-- This project's own.
use Rattle.std.proofs.Common.{◌≡◌, ℕ, List, Option, Some, map, slice_get}
use Rattle.aeth_clocked.specs.{Wires.flit_on, declared.flit.Flit.Flit}
use Rattle.aeth_router.specs.{Router.RouterState, Stage.StageState, TableRouter.TableRouterState}
use Rattle.aeth_router.specs.{declared.part.Part.Part, declared.part.Part.TheVariants.Router}
use Rattle.aeth_router.specs.{declared.part.Part.TheVariants.Stage}
use Rattle.aeth_router.specs.{declared.part.Part.TheVariants.TableRouter}
use Rattle.aeth_components.specs.{Switching.entry_of, View.queue_of}
use Rattle.aeth_invariant.specs.Components.{Net}

-- Components as a net, behind these wires, where so many words of each session were enqueued. What
-- routers and stages hold goes by the wires from which they have it.
abbrev pub net_of : (ℕ → ℕ) → List Part → List (Option Flit) → Net
net_of enqueued parts wires = record {
  entry = entry_of parts;
  queue = queue_of parts;
  held = flit_on wires;
  enqueued = enqueued;
}

-- Routers, of both kinds, and stages hold what these wires have.
pub record HaveLatched (parts : List Part) (wires : List (Option Flit)) : Type 0 where
  pub routers : (i : ℕ) (router : RouterState) → slice_get parts i ≡ Some (Router router)
      → router.held ≡ map (flit_on wires) router.incoming
  pub tables : (i : ℕ) (router : TableRouterState) → slice_get parts i ≡ Some (TableRouter router)
      → router.held ≡ map (flit_on wires) router.incoming
  pub stages : (i : ℕ) (stage : StageState) → slice_get parts i ≡ Some (Stage stage)
      → stage.held ≡ flit_on wires stage.input.0
