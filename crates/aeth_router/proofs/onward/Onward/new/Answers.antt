use Rattle.std.proofs.Common.{◌∙◌, List, Option, ap}
use Rattle.aeth_clocked.specs.declared.flit.Flit.{Flit}
use Rattle.aeth_router.{specs.Onward.arrivals_of, proofs.OnwardLemmas.arrivals_of-none}
use Rattle.aeth_router.proofs.onward.Onward.new.Goals as goal

-- Nothing has come to any wire.
pub returns : goal.returns
returns c =
    let marks = c.in_ok-none.field-0 in
    ap (λ (first : List (Option Flit)). arrivals_of first marks) c.in_ok-new.ensures
    ∙ arrivals_of-none c.args.wires marks
