use Rattle.std.proofs.Common.{◌∙◌, ap, arith, length, sym}
use Rattle.std.proofs.lemmas.List.{length-map}
use Rattle.aeth_components.specs.{Components.ComponentsState, Seen.seen}
use Rattle.aeth_components.proofs.components.Components.len.Goals as goal

-- There are as many, whatever they hold.
pub returns : goal.returns
returns c =
    let all = c.self.inside in
    let size = sym (length-map all.parts.items (seen all.wires))
    ∙ ap (λ (all : ComponentsState). length all.parts) c.self.view_is in
    let own = all.parts.ok.0 in
    let count = c.len.ensures in
    omega (arith, size, own, count)
