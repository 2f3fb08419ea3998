use Rattle.std.proofs.Common.{◌≡◌, subst, sym, Vec, Global}
use Rattle.std.proofs.lemmas.Result.{IfOk-weaker}
use Rattle.aeth_server.specs.declared.shape.ChannelShape.{ChannelShape}
use Rattle.aeth_group.specs.Members.{groups_of}
use Rattle.aeth_tables.{specs.Tables.tables_of, proofs.PromiseLaws.keep_promises}
use Rattle.aeth_chain.specs.{Chain.IsChain, Shapes.AreShapesIn, Shapes.shapes_in}
use Rattle.aeth_chain.proofs.TabledShapes.{found-chain, found-shapes, tables-use}
use Rattle.aeth_chain.proofs.shapes.chain_shapes.Goals as goal

-- The shapes are those of the tables.
pub returns-clause-gives : goal.returns-clause-gives
returns-clause-gives c =
    let u = c.args.u in
    let plan = c.args.planned.now.plan in
    rw (← c.requires.groups) (rw c.in_ok-tables.ensures.gives at c.shapes_in.ensures)

-- Each channel has its own there.
pub returns-clause-tabled : goal.returns-clause-tabled
returns-clause-tabled c =
    let chip = c.args.design.now.chip in
    let app = c.args.design.now.app in
    let plan = c.args.planned.now.plan in
    let u = c.args.u in
    let items = c.args.items.now in
    let tables = tables_of chip app (groups_of app) plan u in
    let keep = keep_promises chip app plan c.requires.design u c.requires.use_case in
    IfOk-weaker c.shapes_in.result
    (λ (shapes : Vec ChannelShape Global). shapes.items ≡ shapes_in tables items)
    (λ (shapes : Vec ChannelShape Global). AreShapesIn tables items shapes.items)
    (λ shapes is. subst (AreShapesIn tables items) (sym is)
    (found-shapes chip app plan u tables (tables-use chip app plan u) keep c.requires.use_case items
    c.requires.items))
    (returns-clause-gives c)

-- With them the items are a chain.
pub returns-clause-chain : goal.returns-clause-chain
returns-clause-chain c =
    let chip = c.args.design.now.chip in
    let app = c.args.design.now.app in
    let plan = c.args.planned.now.plan in
    let u = c.args.u in
    let items = c.args.items.now in
    let tables = tables_of chip app (groups_of app) plan u in
    let keep = keep_promises chip app plan c.requires.design u c.requires.use_case in
    IfOk-weaker c.shapes_in.result
    (λ (shapes : Vec ChannelShape Global). shapes.items ≡ shapes_in tables items)
    (λ (shapes : Vec ChannelShape Global). IsChain items shapes.items)
    (λ shapes is. subst (IsChain items) (sym is)
    (found-chain chip app plan u tables (tables-use chip app plan u) keep c.requires.use_case items
    c.requires.items))
    (returns-clause-gives c)
