-- Laws of what components send on of the flits that they have.
use Rattle.std.proofs.Common.{◌≡◌, ◌∙◌, ◌%◌, ℕ, Bool, true, false, refl, sym, List, Option, Some}
use Rattle.std.proofs.Common.{None, map, ◌==◌, if◌then◌else◌, option_and_then, option_map, position}
use Rattle.std.proofs.Common.{eq-eqb, eqb-true}
use Rattle.aeth_clocked.specs.{declared.flit.Flit.Flit, Wires.flit_on}
use Rattle.aeth_router.specs.Part.{outputs_of}
use Rattle.aeth_router.specs.Passing.{IsSole, passed}
use Rattle.aeth_router.specs.Ports.{flits_for, hopped, sole, toward}
use Rattle.aeth_router.specs.Router.{AreDistinctLinks, RouterState, is_among, router_absorb}
use Rattle.aeth_router.specs.Router.{router_emit, router_inputs}
use Rattle.aeth_router.specs.Single.{is_from, is_sent_by}
use Rattle.aeth_router.specs.Stage.{StageState, stage_absorb, stage_emit, stage_inputs}
use Rattle.aeth_router.specs.TableRouter.{TableRouterState, entry_at, sent_from, sent_on}
use Rattle.aeth_router.specs.TableRouter.{table_absorb, table_emit, table_inputs}
use Rattle.aeth_router.specs.declared.part.Part.{Part}
use Rattle.aeth_router.specs.declared.part.Part.TheVariants.{Interface, Router, Stage, TableRouter}
use Rattle.aeth_router.proofs.AddsLemmas.{sent_on-none}
use Rattle.aeth_router.proofs.LinkLemmas.{is_among-at}
use Rattle.aeth_router.proofs.SoleLemmas.{IsSole-none, IsSole-only, sole-entry, sole-toward}

-- A router sends nothing on a wire that is no output.
sent_on-away : (outgoing : List ℕ) (carried : ℕ → Option Flit) (out : ℕ)
    → is_among outgoing out ≡ false → sent_on outgoing carried out ≡ None
sent_on-away outgoing carried out away =
    sent_on-none outgoing carried out (λ port at.
    absurd (cc (sym (is_among-at outgoing port out at) ∙ away)))

-- A component sends on only its outputs.
pub passed-output : (part : Part) (cycle out wire : ℕ) (flit : Option Flit)
    → outputs_of part out ≡ false → passed part cycle out wire flit ≡ None
passed-output (Interface ni) cycle out wire flit away = refl
passed-output (Router router) cycle out wire flit away = sent_on-away router.outgoing _ out away
passed-output (TableRouter router) cycle out wire flit away =
    sent_on-away router.outgoing _ out away
passed-output (Stage stage) cycle out wire flit away = rw away refl

-- Of nothing, nothing is let through.
let_through-none : (is : Bool) (flit : Option Flit) → flit ≡ None
    → (if is then flit else None) ≡ None
let_through-none true flit none = none
let_through-none false flit none = refl

-- Of no flit nothing is sent on.
pub passed-empty : (part : Part) (cycle out wire : ℕ) → passed part cycle out wire None ≡ None
passed-empty (Interface ni) cycle out wire = refl
passed-empty (Router router) cycle out wire =
    sent_on-none router.outgoing _ out (λ port at. refl)
passed-empty (TableRouter router) cycle out wire =
    sent_on-none router.outgoing _ out (λ port at.
    let_through-none (is_sent_by router (cycle % router.slots) wire port) None refl)
passed-empty (Stage stage) cycle out wire = let_through-none (stage.output.0 == out) None refl

-- A stage sends on just what comes by its input.
pub stage-sole : (stage : StageState) (wires : List (Option Flit)) (cycle out : ℕ)
    → stage.output.0 ≡ out
    → IsSole (λ wire. stage_inputs stage wire ≡ true)
    (λ wire. passed (Stage stage) cycle out wire (flit_on wires wire))
    (stage_emit (stage_absorb stage wires) cycle out)
stage-sole stage wires cycle out is =
    rw (eq-eqb stage.output.0 out is)
    (IsSole-only (λ wire. stage_inputs stage wire ≡ true) (flit_on wires) stage.input.0
    (eq-eqb stage.input.0 stage.input.0 refl)
    (λ other is_other away. absurd (away (sym (eqb-true stage.input.0 other is_other)))))

-- A router sends on an output just what it passes on of one wire.
pub router-sole : (router : RouterState) → AreDistinctLinks router.incoming
    → (wires : List (Option Flit)) (cycle out : ℕ)
    → IsSole (λ wire. router_inputs router wire ≡ true)
    (λ wire. passed (Router router) cycle out wire (flit_on wires wire))
    (router_emit (router_absorb router wires) cycle out)
router-sole router apart wires cycle out =
    let incoming = router.incoming in
    let cases : (port : Option ℕ) → IsSole (λ wire. is_among incoming wire ≡ true)
    (λ wire. option_and_then (λ port. toward port (flit_on wires wire)) port)
    (option_and_then (λ port. sole (flits_for port (map (flit_on wires) incoming))) port) =
    elim [
      | None ↦ IsSole-none _ _ (λ sender. refl)
      | Some port ↦ sole-toward port incoming wires apart
    ] in
    cases (position (λ other. other == out) router.outgoing)

-- So does a router with a table, where no two of its wires need be apart: a port has one entry.
pub table-sole : (router : TableRouterState) (wires : List (Option Flit)) (cycle out : ℕ)
    → IsSole (λ wire. table_inputs router wire ≡ true)
    (λ wire. passed (TableRouter router) cycle out wire (flit_on wires wire))
    (table_emit (table_absorb router wires) cycle out)
table-sole router wires cycle out =
    let incoming = router.incoming in
    let entry = entry_at router.entries router.slots in
    let slot = cycle % router.slots in
    let cases : (port : Option ℕ) → IsSole (λ wire. is_among incoming wire ≡ true)
    (λ wire. option_and_then (λ port. if is_from incoming wire (entry port slot)
    then option_map hopped (flit_on wires wire) else None) port)
    (option_and_then (λ port. sent_from (map (flit_on wires) incoming) (entry port slot)) port) =
    elim [
      | None ↦ IsSole-none _ _ (λ sender. refl)
      | Some port ↦ sole-entry incoming wires (entry port slot)
    ] in
    cases (position (λ other. other == out) router.outgoing)
