use Rattle.std.proofs.Common.{◌∙◌, ◌++◌, [], ap, sym, take}
use Rattle.std.specs.List.{cons_option, filter_map}
use Rattle.aeth_chain.specs.{declared.item.ChainItem.ChainItem, ChainItems.no_item, Shapes.shape_in}
use Rattle.aeth_chain.proofs.TabledShapes.{filter_map-more}
use Rattle.aeth_chain.proofs.shapes.shapes_in.Goals as goal

-- One more item has its shape.
pub loop-item-preserved : goal.loop-item-preserved
loop-item-preserved c =
    let told = λ (item : ChainItem). shape_in c.args.tables.now item.channel in
    let items = c.args.items.now in
    let i = c.loop-item.item-index in
    c.in_ok-push_some.ensures
    ∙ ap (λ xs. xs ++ cons_option c.shape_in.result []) c.loop-item.invariant
    ∙ ap (λ shape. filter_map told (take i items) ++ cons_option shape []) c.shape_in.ensures
    ∙ sym (filter_map-more told items i no_item c.loop-item-test.true)
