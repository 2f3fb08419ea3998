use Rattle.std.proofs.Common.{◌∙◌, sym, eq-eqb, eqb-true}
use Rattle.aeth_components.proofs.FlitLemmas.{flits_on-none, none-flits_on}
use Rattle.aeth_components.proofs.components.Components.are_wires_empty.Goals as goal

-- The flits on the wires are counted.
pub returns : goal.returns
returns c =
    let all = c.self.inside in
    let flits = c.self.invariant.1.flits in
    rw (← c.self.view_is) (
      λ is. flits_on-none all.wires (sym flits ∙ eqb-true all.turns.flits 0 is),
      λ none. eq-eqb all.turns.flits 0 (flits ∙ none-flits_on all.wires none),
    )
