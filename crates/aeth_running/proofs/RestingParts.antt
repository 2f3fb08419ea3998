-- Components over empty wires, of which none sends: each rests in a cycle.
use Rattle.std.proofs.Common.{◌≡◌, ◌∙◌, ℕ, List, Option, Some, None, ap, arith, length, map, refl}
use Rattle.std.proofs.Common.{slice_get}
use Rattle.std.specs.Option.{option_map_or}
use Rattle.aeth_clocked.specs.{Wires.flit_on, declared.flit.Flit.Flit}
use Rattle.aeth_ni.proofs.RestingLemmas.{RestsDrive-interface, RestsLatch-interface}
use Rattle.aeth_ni.specs.Interface.{InterfaceState}
use Rattle.aeth_router.proofs.RestingLemmas.{RestsDrive-router, RestsDrive-stage, RestsDrive-table}
use Rattle.aeth_router.proofs.RestingLemmas.{RestsLatch-router, RestsLatch-stage, RestsLatch-table}
use Rattle.aeth_router.specs.Part.{absorb_of, after_of}
use Rattle.aeth_router.specs.Router.{RouterState}
use Rattle.aeth_router.specs.Stage.{StageState}
use Rattle.aeth_router.specs.TableRouter.{TableRouterState}
use Rattle.aeth_router.specs.declared.part.Part.{Part}
use Rattle.aeth_router.specs.declared.part.Part.TheVariants.{Interface, Router, Stage, TableRouter}
use Rattle.aeth_components.specs.{Components.wires_driven, Counting.brings, Wirings.IsWired}
use Rattle.aeth_components.specs.{Wirings.wiring_of, Queues.brought_by, Queues.words_for}
use Rattle.aeth_components.specs.{declared.channel_state.ChannelState.ChannelState}
use Rattle.aeth_refinement.specs.View.{HaveLatched}
use Rattle.aeth_running.proofs.MuteParts.{held-none, places, sent-none, table-none, table-places}

module _ (parts : List Part) (wires : List (Option Flit)) (cycle : ℕ)
    (wired : IsWired (map wiring_of parts) (length wires)) (latched : HaveLatched parts wires)
    (empty : (l : ℕ) → flit_on wires l ≡ None)
    (silent : (l : ℕ) → flit_on (wires_driven parts (length wires) cycle) l ≡ None)
    (last : (i : ℕ) (ni : InterfaceState) → slice_get parts i ≡ Some (Interface ni)
    → ni.last ≡ None) where
  -- Driving leaves each, and so does the latch.
  pub drives-rest : (i : ℕ) (part : Part) → slice_get parts i ≡ Some part
      → after_of part cycle ≡ part
  drives-rest i (Interface ni) at =
      ap (λ (one : InterfaceState). Interface one)
      ((RestsDrive-interface ni wires cycle).0 (
        empty ni.leaving.0,
        sent-none parts wires cycle wired silent i ni at,
      )).still
  drives-rest i (Router router) at =
      ap (λ (one : RouterState). Router one)
      ((RestsDrive-router router wires cycle).0
      (held-none parts wires latched empty i router at, λ l is. empty l)).still
  drives-rest i (TableRouter router) at =
      ap (λ (one : TableRouterState). TableRouter one)
      ((RestsDrive-table router wires cycle).0
      (table-none parts wires latched empty i router at, λ l is. empty l)).still
  drives-rest i (Stage stage) at =
      ap (λ (one : StageState). Stage one)
      ((RestsDrive-stage stage wires cycle).0
      (latched.stages i stage at ∙ empty stage.input.0, empty stage.output.0)).still

  pub latches-rest : (i : ℕ) (part : Part) → slice_get parts i ≡ Some part
      → absorb_of part wires ≡ part
  latches-rest i (Interface ni) at =
      ap (λ (one : InterfaceState). Interface one)
      ((RestsLatch-interface ni wires).0 (empty ni.entering.0, last i ni at)).1
  latches-rest i (Router router) at =
      ap (λ (one : RouterState). Router one)
      ((RestsLatch-router router wires (places parts wires latched empty i router at)).0
      (held-none parts wires latched empty i router at, λ l is. empty l)).1
  latches-rest i (TableRouter router) at =
      ap (λ (one : TableRouterState). TableRouter one)
      ((RestsLatch-table router wires (table-places parts wires latched empty i router at)).0
      (table-none parts wires latched empty i router at, λ l is. empty l)).1
  latches-rest i (Stage stage) at =
      ap (λ (one : StageState). Stage one)
      ((RestsLatch-stage stage wires).0
      (latched.stages i stage at ∙ empty stage.input.0, empty stage.input.0)).1

  -- And no interface tells of words that came.
  logged-none : (queue i : ℕ) (part : Part) → slice_get parts i ≡ Some part
      → brought_by queue part ≡ 0
  logged-none queue i (Interface ni) at = ap (words_for queue) (last i ni at)
  logged-none queue i (Router router) at = refl
  logged-none queue i (TableRouter router) at = refl
  logged-none queue i (Stage stage) at = refl

  found-none : (queue i : ℕ) (found : Option Part) → slice_get parts i ≡ found
      → option_map_or (brought_by queue) found 0 ≡ 0
  found-none queue i None at = refl
  found-none queue i (Some part) at = logged-none queue i part at

  pub lands-none : (channel_state : ChannelState) → brings parts channel_state ≡ 0
  lands-none channel_state =
      let end = channel_state.receiver in
      let none = found-none end.queue end.ni.0 (slice_get parts end.ni.0) refl in
      omega (arith, none)
