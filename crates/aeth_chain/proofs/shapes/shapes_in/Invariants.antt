use Rattle.std.{proofs.Common.◌≡◌, proofs.Common.take, specs.List.filter_map}
use Rattle.aeth_chain.specs.Shapes.{shape_in}
use Rattle.aeth_chain.proofs.shapes.shapes_in.Given as goal

-- The shapes of the items so far.
abbrev pub invariant-loop-item : goal.invariant-loop-item
invariant-loop-item l =
    l.shapes.items ≡ filter_map (λ item. shape_in l.tables item.channel) (take l.item-index l.items)
