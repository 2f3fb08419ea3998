-- When a router, a stage, or a component of any kind rests.
use Rattle.std.proofs.Common.{◌≡◌, ◌↔◌, ◌∙◌, ℕ, Bool, IsTrue, false, sym, ap, List, length, map}
use Rattle.std.proofs.Common.{replicate, Option, None}
use Rattle.aeth_clocked.specs.{Resting.HasNoFlit, Resting.RestsDrive, Resting.RestsLatch}
use Rattle.aeth_clocked.specs.{Wires.flit_on, declared.flit.Flit.Flit}
use Rattle.aeth_clocked.proofs.WiresLemmas.{HasNoFlit-one}
use Rattle.aeth_router.specs.Part.{after_of, emit_of, outputs_of}
use Rattle.aeth_router.specs.Router.{RouterState, emitted_on, is_among, router_absorb, router_after}
use Rattle.aeth_router.specs.Router.{router_emit, router_inputs, router_outputs}
use Rattle.aeth_router.specs.Stage.{StageState, stage_absorb, stage_after, stage_emit, stage_inputs}
use Rattle.aeth_router.specs.Stage.{stage_outputs}
use Rattle.aeth_router.specs.TableRouter.{TableRouterState, table_absorb, table_after, table_emit}
use Rattle.aeth_router.specs.TableRouter.{table_inputs, table_outputs}
use Rattle.aeth_router.specs.declared.part.Part.{Part}
use Rattle.aeth_router.proofs.IdleLemmas.{HasNoFlit-map, emitted_on-idle}
use Rattle.aeth_router.proofs.TableLemmas.{table_emit-idle}

-- Where what is latched is empty, it is what is held just where none is held.
takes-none : (held : List (Option Flit)) (incoming : List ℕ) (wires : List (Option Flit))
    → length held ≡ length incoming
    → ((held ≡ replicate (length held) None) × HasNoFlit (is_among incoming) wires)
    ↔ (HasNoFlit (is_among incoming) wires × (map (flit_on wires) incoming ≡ held))
takes-none held incoming wires places =
    let none_come = λ (empty : HasNoFlit (is_among incoming) wires).
    HasNoFlit-map incoming wires empty ∙ ap (λ n. replicate n None) (sym places) in (
      (λ idle. (idle.1, none_come idle.1 ∙ sym idle.0)),
      (λ rests. (sym rests.1 ∙ none_come rests.0, rests.0)),
    )

module _ (router : RouterState) (wires : List (Option Flit)) where
  -- A router rests from driving just where it holds no flit and its outgoing links are empty.
  pub RestsDrive-router : (cycle : ℕ)
      → ((router.held ≡ replicate (length router.held) None)
      × HasNoFlit (is_among router.outgoing) wires)
      ↔ RestsDrive router_outputs router_emit router_after cycle wires router
  RestsDrive-router cycle = (
    (λ idle. record {
      silent = λ link is.
          ap (λ (held : List (Option Flit)). emitted_on router.outgoing held link) idle.0
          ∙ emitted_on-idle router.outgoing (length router.held) link;
      still = ap (λ (held : List (Option Flit)). record router { held = held }) (sym idle.0);
      empty = idle.1;
    }),
    (λ rests. (sym (ap (λ (router : RouterState). router.held) rests.still), rests.empty)),
  )

  -- It rests from latching empty wires just where it holds no flit.
  pub RestsLatch-router : length router.held ≡ length router.incoming
      → ((router.held ≡ replicate (length router.held) None)
      × HasNoFlit (is_among router.incoming) wires)
      ↔ (HasNoFlit (router_inputs router) wires × RestsLatch router_absorb wires router)
  RestsLatch-router places =
      let takes_none = takes-none router.held router.incoming wires places in (
        (λ idle. let rests = takes_none.0 idle in (
          rests.0,
          ap (λ (held : List (Option Flit)). record router { held = held }) rests.1,
        )),
        (λ rests. takes_none.1 (
          rests.0,
          ap (λ (router : RouterState). router.held) rests.1,
        )),
      )

-- So do routers with tables.
module _ (router : TableRouterState) (wires : List (Option Flit)) where
  pub RestsDrive-table : (cycle : ℕ)
      → ((router.held ≡ replicate (length router.held) None)
      × HasNoFlit (is_among router.outgoing) wires)
      ↔ RestsDrive table_outputs table_emit table_after cycle wires router
  RestsDrive-table cycle = (
    (λ idle. record {
      silent = λ link is. table_emit-idle router cycle link idle.0;
      still = ap (λ (held : List (Option Flit)). record router { held = held }) (sym idle.0);
      empty = idle.1;
    }),
    (λ rests. (sym (ap (λ (router : TableRouterState). router.held) rests.still), rests.empty)),
  )

  pub RestsLatch-table : length router.held ≡ length router.incoming
      → ((router.held ≡ replicate (length router.held) None)
      × HasNoFlit (is_among router.incoming) wires)
      ↔ (HasNoFlit (table_inputs router) wires × RestsLatch table_absorb wires router)
  RestsLatch-table places =
      let takes_none = takes-none router.held router.incoming wires places in (
        (λ idle. let rests = takes_none.0 idle in (
          rests.0,
          ap (λ (held : List (Option Flit)). record router { held = held }) rests.1,
        )),
        (λ rests. takes_none.1 (
          rests.0,
          ap (λ (router : TableRouterState). router.held) rests.1,
        )),
      )

module _ (stage : StageState) (wires : List (Option Flit)) where
  -- A stage rests from driving just where it holds no flit and its output is empty.
  pub RestsDrive-stage : (cycle : ℕ)
      → ((stage.held ≡ None) × (flit_on wires stage.output.0 ≡ None))
      ↔ RestsDrive stage_outputs stage_emit stage_after cycle wires stage
  RestsDrive-stage cycle = (
    (λ idle. record {
      silent = λ link is. idle.0;
      still = ap (λ (held : Option Flit). record stage { held = held }) (sym idle.0);
      empty = (HasNoFlit-one stage.output.0 wires).0 idle.1;
    }),
    (λ rests. (
      sym (ap (λ (stage : StageState). stage.held) rests.still),
      (HasNoFlit-one stage.output.0 wires).1 rests.empty,
    )),
  )

  -- It rests from latching an empty wire just where it holds no flit.
  pub RestsLatch-stage :
      ((stage.held ≡ None) × (flit_on wires stage.input.0 ≡ None))
      ↔ (HasNoFlit (stage_inputs stage) wires × RestsLatch stage_absorb wires stage)
  RestsLatch-stage = (
    (λ idle. (
      (HasNoFlit-one stage.input.0 wires).0 idle.1,
      ap (λ (held : Option Flit). record stage { held = held }) (idle.1 ∙ sym idle.0),
    )),
    (λ rests.
        let empty = (HasNoFlit-one stage.input.0 wires).1 rests.0 in (
          sym (ap (λ (stage : StageState). stage.held) rests.1) ∙ empty,
          empty,
        )),
  )

-- A component rests just where it holds nothing and its links are empty. Where it holds nothing, a
-- test of its links tells.
pub rests-empty : {Holds Empty Rests : Type 0} {is : Bool} → ((Holds × Empty) ↔ Rests) → Holds
    → (IsTrue is ↔ Empty) → IsTrue is ↔ Rests
rests-empty rests holds empty =
    ((λ told. rests.0 (holds, empty.0 told)), (λ resting. empty.1 (rests.1 resting).1))

-- Where it holds something, a test of that tells.
pub rests-none : {Holds Empty Rests : Type 0} {is : Bool} → ((Holds × Empty) ↔ Rests) → is ≡ false
    → (IsTrue is ↔ Holds) → IsTrue is ↔ Rests
rests-none rests isnt holds =
    ((λ is. absurd (cc (sym isnt ∙ is))), (λ resting. holds.1 (rests.1 resting).0))

-- A component among those of any kind rests just where it does alone. `of` makes it one of them,
-- and keeps components apart.
pub drives-among : {P : Type 0} {outputs : P → ℕ → Bool} {emit : P → ℕ → ℕ → Option Flit}
    {after : P → ℕ → P} {cycle : ℕ} {wires : List (Option Flit)} {one : P} {is : Bool}
    (of : P → Part) → ((some other : P) → of some ≡ of other → some ≡ other)
    → outputs_of (of one) ≡ outputs one → emit_of (of one) ≡ emit one
    → after_of (of one) cycle ≡ of (after one cycle)
    → (IsTrue is ↔ RestsDrive outputs emit after cycle wires one)
    → IsTrue is ↔ RestsDrive outputs_of emit_of after_of cycle wires (of one)
drives-among {P} {outputs} {emit} {after} {cycle} {wires} {one} of apart sends emits left told = (
  (λ is.
      let rests = told.0 is in
      record {
        silent = λ link is. rw emits (rests.silent link (rw sends at is));
        still = left ∙ ap of rests.still;
        empty = rw sends rests.empty;
      }),
  (λ rests. told.1 (record {
    silent = λ link is. rw emits at (rests.silent link (rw sends is));
    still = apart (after one cycle) one (sym left ∙ rests.still);
    empty = rw sends at rests.empty;
  })),
)
