-- The laws that a component of any kind owes.
-- This project's own.
use Rattle.std.proofs.Common.{◌≡◌, ℕ, List, Option, ap, refl}
use Rattle.aeth_clocked.specs.{Wires.AgreeOn, declared.flit.Flit.Flit}
use Rattle.aeth_ni.specs.Agreement.{interface_absorb-agrees}
use Rattle.aeth_router.specs.Agreement.{router_absorb-agrees, stage_absorb-agrees}
use Rattle.aeth_router.specs.Agreement.{table_absorb-agrees}
use Rattle.aeth_router.specs.declared.part.Part.{Part}
use Rattle.aeth_router.specs.declared.part.Part.TheVariants.{Interface, Router, Stage, TableRouter}
use Rattle.aeth_router.specs.Part.{outputs_of, inputs_of, after_of, absorb_of}

-- Behind a drive a component has its outputs.
pub outputs_of-after : (part : Part) (cycle link : ℕ)
    → outputs_of (after_of part cycle) link ≡ outputs_of part link
outputs_of-after (Interface ni) cycle link = refl
outputs_of-after (Router router) cycle link = refl
outputs_of-after (TableRouter router) cycle link = refl
outputs_of-after (Stage stage) cycle link = refl

-- It has its inputs.
pub inputs_of-after : (part : Part) (cycle link : ℕ)
    → inputs_of (after_of part cycle) link ≡ inputs_of part link
inputs_of-after (Interface ni) cycle link = refl
inputs_of-after (Router router) cycle link = refl
inputs_of-after (TableRouter router) cycle link = refl
inputs_of-after (Stage stage) cycle link = refl

-- So it has its outputs once it has latched.
pub outputs_of-absorb : (part : Part) (wires : List (Option Flit)) (link : ℕ)
    → outputs_of (absorb_of part wires) link ≡ outputs_of part link
outputs_of-absorb (Interface ni) wires link = refl
outputs_of-absorb (Router router) wires link = refl
outputs_of-absorb (TableRouter router) wires link = refl
outputs_of-absorb (Stage stage) wires link = refl

-- So it has its inputs.
pub inputs_of-absorb : (part : Part) (wires : List (Option Flit)) (link : ℕ)
    → inputs_of (absorb_of part wires) link ≡ inputs_of part link
inputs_of-absorb (Interface ni) wires link = refl
inputs_of-absorb (Router router) wires link = refl
inputs_of-absorb (TableRouter router) wires link = refl
inputs_of-absorb (Stage stage) wires link = refl

-- It latches alike from wires that agree on its inputs.
pub absorb_of-agrees : (part : Part) (some other : List (Option Flit))
    → AgreeOn (inputs_of part) some other → absorb_of part some ≡ absorb_of part other
absorb_of-agrees (Interface ni) some other agree =
    ap (λ ni. Interface ni) (interface_absorb-agrees ni some other agree)
absorb_of-agrees (Router router) some other agree =
    ap (λ router. Router router) (router_absorb-agrees router some other agree)
absorb_of-agrees (TableRouter router) some other agree =
    ap (λ router. TableRouter router) (table_absorb-agrees router some other agree)
absorb_of-agrees (Stage stage) some other agree =
    ap (λ stage. Stage stage) (stage_absorb-agrees stage some other agree)
