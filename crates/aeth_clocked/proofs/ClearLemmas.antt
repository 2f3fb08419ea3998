-- Wires from which all flits are taken.
use Rattle.std.proofs.Common.{ℕ, zero, suc, ◌≡◌, ◌<◌, ◌∙◌, refl, sym, ap, arith, inl, inr, List}
use Rattle.std.proofs.Common.{length, Option, None, Some, replicate}
use Rattle.std.proofs.lemmas.Bool.{cases_lt}
use Rattle.std.proofs.lemmas.List.{get_or-replicate, length-replicate}
use Rattle.std.proofs.lemmas.Option.{slice_get-get_or, slice_get_past, unwrap_or-slice_get}
use Rattle.aeth_base.proofs.Lists.{same_list}
use Rattle.aeth_clocked.specs.{Wires.flit_on, declared.flit.Flit.Flit}

-- Empty wires have no flit.
pub flit_on-replicate : (count wire : ℕ) → flit_on (replicate count None) wire ≡ None
flit_on-replicate zero wire = refl
flit_on-replicate (suc count) zero = refl
flit_on-replicate (suc count) (suc wire) = flit_on-replicate count wire

-- Wires without a flit are all empty.
pub all-empty : (wires : List (Option Flit))
    → ((link : ℕ) → link < length wires → flit_on wires link ≡ None)
    → wires ≡ replicate (length wires) None
all-empty wires empty =
    let none = replicate (length wires) None in
    let size : length none ≡ length wires = length-replicate (length wires) None in
    same_list wires none (λ link.
    elim (cases_lt link (length wires)) [
      | inl within ↦
          slice_get-get_or wires link None within
          ∙ ap (λ (flit : Option Flit). Some flit)
          (sym (unwrap_or-slice_get wires link None) ∙ empty link within)
          ∙ sym (slice_get-get_or none link None (omega arith)
          ∙ ap (λ (flit : Option Flit). Some flit)
          (get_or-replicate (length wires) link None None within))
      | inr past ↦
          slice_get_past wires link (omega arith)
          ∙ sym (slice_get_past none link (omega arith))
    ])
