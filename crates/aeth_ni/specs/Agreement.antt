-- The law of latching that components owe: what an interface absorbs depends on its entering link
-- alone.
-- This project's own.
use Rattle.std.proofs.Common.{◌≡◌, List, Option, None, unwrap_or, ap, refl, eq-eqb}
use Rattle.aeth_clocked.specs.{Wires.AgreeOn, declared.flit.Flit.Flit}
use Rattle.aeth_ni.specs.Interface.{InterfaceState}
use Rattle.aeth_ni.specs.Component.{absorbed, arrival_of, interface_absorb, interface_inputs}

-- An interface latches alike from wires that agree on its entering link.
pub interface_absorb-agrees : (ni : InterfaceState) (some other : List (Option Flit))
    → AgreeOn (interface_inputs ni) some other
    → interface_absorb ni some ≡ interface_absorb ni other
interface_absorb-agrees ni some other agree =
    ap (λ (flit : Option (Option Flit)). absorbed (arrival_of (unwrap_or flit None)) ni)
    (agree ni.entering.0 (eq-eqb ni.entering.0 ni.entering.0 refl))
