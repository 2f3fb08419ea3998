-- Components over empty wires drive nothing just where none of them sends words of its own.
use Rattle.std.proofs.Common.{◌≡◌, ◌∙◌, ℕ, true, false, List, [], ◌∷◌, Option, Some, None, ap}
use Rattle.std.proofs.Common.{arith, suc, inl, inr, is_some, length, map, refl, slice_get, sym}
use Rattle.std.proofs.Common.{eq-eqb, replicate}
use Rattle.std.proofs.lemmas.{Bool.cases_Bool, Bool.cases_lt, List.length-map, Option.slice_get-map}
use Rattle.std.specs.Option.{option_map}
use Rattle.aeth_base.proofs.{Members.All-slice_get, TestLemmas.is_some-false}
use Rattle.aeth_clocked.{proofs.DrivenLemmas.driven-at, specs.Driven.driven, specs.Wires.AreLinks}
use Rattle.aeth_clocked.{specs.Wires.flit_on, specs.declared.flit.Flit.Flit}
use Rattle.aeth_ni.specs.{Component.emitted_by, Component.queue_at_cycle, Interface.InterfaceState}
use Rattle.aeth_router.proofs.RestingLemmas.{RestsDrive-router, RestsDrive-stage, RestsDrive-table}
use Rattle.aeth_router.specs.Part.{emit_of, outputs_of}
use Rattle.aeth_router.specs.Router.{RouterState}
use Rattle.aeth_router.specs.TableRouter.{TableRouterState}
use Rattle.aeth_router.specs.declared.part.Part.{Part}
use Rattle.aeth_router.specs.declared.part.Part.TheVariants.{Interface, Router, Stage, TableRouter}
use Rattle.aeth_components.proofs.WiringLemmas.{AreDisjoint-parts, length-wires_driven}
use Rattle.aeth_components.specs.{Components.wires_driven, Wirings.Wiring, Wirings.IsWired}
use Rattle.aeth_components.specs.{Wirings.wiring_of, Wirings.sends_by, FlitsOnWires.sends_own}
use Rattle.aeth_refinement.proofs.Driving.{flit_on-driven, flit_on-past}
use Rattle.aeth_refinement.specs.View.{HaveLatched}

-- A wire on which each component that sends there emits nothing is driven empty.
pub driven-none : (parts : List Part) (cycle link : ℕ)
    → ((i : ℕ) (part : Part) → slice_get parts i ≡ Some part → outputs_of part link ≡ true
    → emit_of part cycle link ≡ None)
    → driven outputs_of emit_of parts cycle link ≡ None
driven-none [] cycle link none = refl
driven-none (part ∷ parts) cycle link none = elim (cases_Bool (outputs_of part link)) [
  | inl own ↦ rw own (none 0 part refl own)
  | inr other ↦ rw other (driven-none parts cycle link (λ i one at. none (suc i) one at))
]

module _ (parts : List Part) (wires : List (Option Flit)) where
  module _ (latched : HaveLatched parts wires) (empty : (l : ℕ) → flit_on wires l ≡ None) where
    -- Nothing comes from empty wires.
    nothing-from : (links : List ℕ) → map (flit_on wires) links ≡ replicate (length links) None
    nothing-from [] = refl
    nothing-from (link ∷ links) =
        ap (λ (one : Option Flit). one ∷ map (flit_on wires) links) (empty link)
        ∙ ap (λ (others : List (Option Flit)). None ∷ others) (nothing-from links)

    -- So a router holds nothing.
    pub places : (i : ℕ) (router : RouterState) → slice_get parts i ≡ Some (Router router)
        → length router.held ≡ length router.incoming
    places i router at =
        ap length (latched.routers i router at) ∙ length-map router.incoming (flit_on wires)

    pub held-none : (i : ℕ) (router : RouterState) → slice_get parts i ≡ Some (Router router)
        → router.held ≡ replicate (length router.held) None
    held-none i router at =
        latched.routers i router at ∙ nothing-from router.incoming
        ∙ ap (λ n. replicate n None) (sym (places i router at))

    pub table-places : (i : ℕ) (router : TableRouterState)
        → slice_get parts i ≡ Some (TableRouter router)
        → length router.held ≡ length router.incoming
    table-places i router at =
        ap length (latched.tables i router at) ∙ length-map router.incoming (flit_on wires)

    pub table-none : (i : ℕ) (router : TableRouterState)
        → slice_get parts i ≡ Some (TableRouter router)
        → router.held ≡ replicate (length router.held) None
    table-none i router at =
        latched.tables i router at ∙ nothing-from router.incoming
        ∙ ap (λ n. replicate n None) (sym (table-places i router at))

  module _ (cycle : ℕ) (wired : IsWired (map wiring_of parts) (length wires)) where
    -- An interface whose leaving wire stays empty sends nothing.
    pub sent-none : ((l : ℕ) → flit_on (wires_driven parts (length wires) cycle) l ≡ None)
        → (i : ℕ) (ni : InterfaceState) → slice_get parts i ≡ Some (Interface ni)
        → emitted_by (queue_at_cycle ni.entries cycle) ni.queues ≡ None
    sent-none silent i ni at =
        let leaving = ni.leaving.0 in
        let own = eq-eqb leaving leaving refl in
        let links = All-slice_get (λ (wiring : Wiring). AreLinks (sends_by wiring) (length wires))
        (map wiring_of parts) i (wiring_of (Interface ni)) wired.outputs
        (slice_get-map wiring_of parts i ∙ ap (option_map wiring_of) at) in
        sym (flit_on-driven parts (length wires) cycle leaving (links leaving own)
        ∙ driven-at outputs_of emit_of parts i cycle leaving (Interface ni)
        (AreDisjoint-parts parts (length wires) wired) at own)
        ∙ silent leaving

    -- So where the wires stay empty, no component sends words of its own.
    pub silent-mute : ((l : ℕ) → flit_on (wires_driven parts (length wires) cycle) l ≡ None)
        → (i : ℕ) (part : Part) → slice_get parts i ≡ Some part → sends_own cycle part ≡ false
    silent-mute silent i (Interface ni) at = ap is_some (sent-none silent i ni at)
    silent-mute silent i (Router router) at = refl
    silent-mute silent i (TableRouter router) at = refl
    silent-mute silent i (Stage stage) at = refl

    module _ (latched : HaveLatched parts wires) (empty : (l : ℕ) → flit_on wires l ≡ None) where
      -- A component that sends nothing of its own emits nothing.
      emits-none : (i : ℕ) (part : Part) → slice_get parts i ≡ Some part
          → sends_own cycle part ≡ false → (link : ℕ) → outputs_of part link ≡ true
          → emit_of part cycle link ≡ None
      emits-none i (Interface ni) at mute link own = is_some-false _ mute
      emits-none i (Router router) at mute link own =
          ((RestsDrive-router router wires cycle).0
          (held-none latched empty i router at, λ l is. empty l)).silent link own
      emits-none i (TableRouter router) at mute link own =
          ((RestsDrive-table router wires cycle).0
          (table-none latched empty i router at, λ l is. empty l)).silent link own
      emits-none i (Stage stage) at mute link own =
          ((RestsDrive-stage stage wires cycle).0
          (latched.stages i stage at ∙ empty stage.input.0, empty stage.output.0)).silent link own

      -- And where none sends, the wires stay empty.
      pub mute-silent : ((i : ℕ) (part : Part) → slice_get parts i ≡ Some part
          → sends_own cycle part ≡ false)
          → (l : ℕ) → flit_on (wires_driven parts (length wires) cycle) l ≡ None
      mute-silent mute l = elim (cases_lt l (length wires)) [
        | inl within ↦
            flit_on-driven parts (length wires) cycle l within
            ∙ driven-none parts cycle l
            (λ i part at own. emits-none i part at (mute i part at) l own)
        | inr past ↦
            let size = length-wires_driven parts (length wires) cycle in
            flit_on-past (wires_driven parts (length wires) cycle) l (omega (arith, size, past))
      ]
