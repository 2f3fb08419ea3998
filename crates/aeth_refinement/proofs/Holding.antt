-- What routers, of both kinds, and stages hold.
use Rattle.std.proofs.Common.{◌≡◌, ◌∙◌, ℕ, sym, ap, List, Option, Some, map, slice_get, option_map}
use Rattle.std.proofs.lemmas.Option.{slice_get-map}
use Rattle.aeth_clocked.specs.{Wires.flit_on, declared.flit.Flit.Flit}
use Rattle.aeth_router.specs.Part.{absorb_of}
use Rattle.aeth_router.specs.Router.{RouterState, absorbed}
use Rattle.aeth_router.specs.Stage.{StageState, stage_absorb}
use Rattle.aeth_router.specs.TableRouter.{TableRouterState, table_absorb}
use Rattle.aeth_router.specs.declared.part.Part.{Part}
use Rattle.aeth_router.specs.declared.part.Part.TheVariants.{Interface, Router, Stage, TableRouter}
use Rattle.aeth_components.proofs.WiringLemmas.{from-map}
use Rattle.aeth_refinement.{proofs.Kept.hardware_in, specs.View.HaveLatched}

-- A router that has latched wires holds what they have where it receives, and so does a stage.
router-latched : (part : Part) (wires : List (Option Flit)) (router : RouterState)
    → Router router ≡ absorb_of part wires → router.held ≡ map (flit_on wires) router.incoming
router-latched (Interface ni) wires router is = absurd (cc is)
router-latched (Router old) wires router is =
    let same : router ≡ absorbed wires old = cc is in
    ap (λ (r : RouterState). r.held) same
    ∙ sym (ap (λ (r : RouterState). map (flit_on wires) r.incoming) same)
router-latched (TableRouter old) wires router is = absurd (cc is)
router-latched (Stage stage) wires router is = absurd (cc is)

table-latched : (part : Part) (wires : List (Option Flit)) (router : TableRouterState)
    → TableRouter router ≡ absorb_of part wires → router.held ≡ map (flit_on wires) router.incoming
table-latched (Interface ni) wires router is = absurd (cc is)
table-latched (Router old) wires router is = absurd (cc is)
table-latched (TableRouter old) wires router is =
    let same : router ≡ table_absorb old wires = cc is in
    ap (λ (r : TableRouterState). r.held) same
    ∙ sym (ap (λ (r : TableRouterState). map (flit_on wires) r.incoming) same)
table-latched (Stage stage) wires router is = absurd (cc is)

stage-latched : (part : Part) (wires : List (Option Flit)) (stage : StageState)
    → Stage stage ≡ absorb_of part wires → stage.held ≡ flit_on wires stage.input.0
stage-latched (Interface ni) wires stage is = absurd (cc is)
stage-latched (Router router) wires stage is = absurd (cc is)
stage-latched (TableRouter router) wires stage is = absurd (cc is)
stage-latched (Stage old) wires stage is =
    let same : stage ≡ stage_absorb old wires = cc is in
    ap (λ (s : StageState). s.held) same
    ∙ sym (ap (λ (s : StageState). flit_on wires s.input.0) same)

pub latched-absorb : (parts : List Part) (wires : List (Option Flit))
    → HaveLatched (map (λ part. absorb_of part wires) parts) wires
latched-absorb parts wires = record {
  routers = λ i router at.
      let found = from-map (λ part. absorb_of part wires) parts i (Router router) at in
      router-latched found.0 wires router found.2;
  tables = λ i router at.
      let found = from-map (λ part. absorb_of part wires) parts i (TableRouter router) at in
      table-latched found.0 wires router found.2;
  stages = λ i stage at.
      let found = from-map (λ part. absorb_of part wires) parts i (Stage stage) at in
      stage-latched found.0 wires stage found.2;
}

-- Components with the same routers and stages.
is-router : (part : Part) (router : RouterState) → Some (Router router) ≡ hardware_in part
    → part ≡ Router router
is-router (Interface ni) router is = absurd (cc is)
is-router (Router own) router is = cc is
is-router (TableRouter own) router is = absurd (cc is)
is-router (Stage stage) router is = absurd (cc is)

is-table : (part : Part) (router : TableRouterState)
    → Some (TableRouter router) ≡ hardware_in part → part ≡ TableRouter router
is-table (Interface ni) router is = absurd (cc is)
is-table (Router own) router is = absurd (cc is)
is-table (TableRouter own) router is = cc is
is-table (Stage stage) router is = absurd (cc is)

is-stage : (part : Part) (stage : StageState) → Some (Stage stage) ≡ hardware_in part
    → part ≡ Stage stage
is-stage (Interface ni) stage is = absurd (cc is)
is-stage (Router router) stage is = absurd (cc is)
is-stage (TableRouter router) stage is = absurd (cc is)
is-stage (Stage own) stage is = cc is

module _ (one other : List Part) (same : map hardware_in one ≡ map hardware_in other) where
  found-in : (i : ℕ) (part : Part) → slice_get one i ≡ Some part
      → slice_get (map hardware_in other) i ≡ Some (hardware_in part)
  found-in i part at =
      ap (λ (ps : List (Option Part)). slice_get ps i) (sym same)
      ∙ slice_get-map hardware_in one i ∙ ap (option_map hardware_in) at

  pub latched-same : (wires : List (Option Flit)) → HaveLatched other wires → HaveLatched one wires
  latched-same wires held = record {
    routers = λ i router at.
        let found = from-map hardware_in other i (Some (Router router)) (found-in i _ at) in
        held.routers i router (found.1 ∙ ap (λ (part : Part). Some part)
        (is-router found.0 router found.2));
    tables = λ i router at.
        let found = from-map hardware_in other i (Some (TableRouter router)) (found-in i _ at) in
        held.tables i router (found.1 ∙ ap (λ (part : Part). Some part)
        (is-table found.0 router found.2));
    stages = λ i stage at.
        let found = from-map hardware_in other i (Some (Stage stage)) (found-in i _ at) in
        held.stages i stage (found.1 ∙ ap (λ (part : Part). Some part)
        (is-stage found.0 stage found.2));
  }
