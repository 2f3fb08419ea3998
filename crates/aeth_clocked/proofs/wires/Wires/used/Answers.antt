use Rattle.std.proofs.Common.{◌∙◌, List, Option, ap}
use Rattle.aeth_clocked.specs.{Wires.used_from, declared.flit.Flit.Flit}
use Rattle.aeth_clocked.proofs.MarkedWiresLemmas.{marked_from-marked_wires}
use Rattle.aeth_clocked.proofs.wires.Wires.used.Goals as goal

-- The marked links are those with a flit.
pub returns : goal.returns
returns c =
    c.iter.ensures
    ∙ marked_from-marked_wires c.self.inside.used c.self.inside.flits.items c.self.invariant
    ∙ ap (λ (wires : List (Option Flit)). used_from wires 0) c.self.view_is
