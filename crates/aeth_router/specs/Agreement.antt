-- The law of latching that components owe: what a router or a stage holds then depends on its
-- inputs alone.
-- This project's own.
use Rattle.std.proofs.Common.{◌≡◌, ℕ, ◌==◌, List, [], ◌∷◌, Option, Some, None, map, slice_get}
use Rattle.std.proofs.Common.{unwrap_or, refl, ap, suc, eq-eqb}
use Rattle.std.proofs.lemmas.Map.Keys.{any_passes_from_place}
use Rattle.aeth_clocked.specs.{declared.flit.Flit.Flit, Wires.AgreeOn, Wires.flit_on}
use Rattle.aeth_router.specs.Router.{RouterState, is_among, router_absorb, router_inputs}
use Rattle.aeth_router.specs.Stage.{StageState, stage_absorb, stage_inputs}
use Rattle.aeth_router.specs.TableRouter.{TableRouterState, table_absorb, table_inputs}

-- Wires that agree on each link of a list have the same flits there.
flits-agree : (links : List ℕ) (some other : List (Option Flit))
    → ((place link : ℕ) → slice_get links place ≡ Some link
    → slice_get some link ≡ slice_get other link)
    → map (flit_on some) links ≡ map (flit_on other) links
flits-agree [] some other agree = refl
flits-agree (link ∷ links) some other agree =
    let here : flit_on some link ≡ flit_on other link =
    ap (λ (flit : Option (Option Flit)). unwrap_or flit None) (agree 0 link refl) in
    let rest : map (flit_on some) links ≡ map (flit_on other) links =
    flits-agree links some other (λ place. agree (suc place)) in
    cc

-- So have those that agree on each link that is among them.
agrees-among : (links : List ℕ) (some other : List (Option Flit))
    → AgreeOn (is_among links) some other → map (flit_on some) links ≡ map (flit_on other) links
agrees-among links some other agree =
    flits-agree links some other (λ place link at.
    agree link (any_passes_from_place (λ among. among == link) links place link at
    (eq-eqb link link refl)))

-- A router latches alike from wires that agree on its incoming links.
pub router_absorb-agrees : (router : RouterState) (some other : List (Option Flit))
    → AgreeOn (router_inputs router) some other
    → router_absorb router some ≡ router_absorb router other
router_absorb-agrees router some other agree =
    ap (λ (held : List (Option Flit)). record router { held = held })
    (agrees-among router.incoming some other agree)

-- A stage latches alike from wires that agree on its input.
pub stage_absorb-agrees : (stage : StageState) (some other : List (Option Flit))
    → AgreeOn (stage_inputs stage) some other → stage_absorb stage some ≡ stage_absorb stage other
stage_absorb-agrees stage some other agree =
    ap (λ (flit : Option (Option Flit)). record stage { held = unwrap_or flit None })
    (agree stage.input.0 (eq-eqb stage.input.0 stage.input.0 refl))

-- A router with a table latches alike from wires that agree on its incoming links.
pub table_absorb-agrees : (router : TableRouterState) (some other : List (Option Flit))
    → AgreeOn (table_inputs router) some other
    → table_absorb router some ≡ table_absorb router other
table_absorb-agrees router some other agree =
    ap (λ (held : List (Option Flit)). record router { held = held })
    (agrees-among router.incoming some other agree)
