use Rattle.std.proofs.{Common.Vec, Common.Global, lemmas.Result.err_from_is_err_and}
use Rattle.aeth_chain.specs.declared.item.ChainItem.{ChainItem}
use Rattle.aeth_answers.specs.Places.{files_of}
use Rattle.aeth_answers.proofs.FileLemmas.{Answers-stopped, Answers-then}
use Rattle.aeth_plan_commands.specs.Chain.{judged_items, planned_task}
use Rattle.aeth_plan_commands.proofs.chain.items_answer.Goals as goal

-- The items break a rule.
pub returns-in_err-items : goal.returns-in_err-items
returns-in_err-items g c =
    let p = err_from_is_err_and c.from_residual.result c.from_residual.ensures.1 in
    let now = files_of g.H.Shelf c.args.shelf.now in
    let design = c.args.design.now in
    rw (p.1, p.2)
    (Answers-stopped now now (judged_items design.app c.args.u c.args.chain.now.items.now)
    (λ (items : Vec ChainItem Global). items.items)
    (λ items. planned_task design c.args.files.now c.args.u items c.args.chain.now.cycles) _
    (c.in_err-items.ensures.judges now))

-- What comes of the items is answered.
pub returns : goal.returns
returns g c =
    let now = files_of g.H.Shelf c.args.shelf.now in
    let design = c.args.design.now in
    Answers-then now now (files_of g.H.Shelf c.planned_answer.new.shelf)
    (judged_items design.app c.args.u c.args.chain.now.items.now)
    (λ (items : Vec ChainItem Global). items.items) c.in_ok-items.items
    (λ items. planned_task design c.args.files.now c.args.u items c.args.chain.now.cycles)
    c.planned_answer.result (c.in_ok-items.ensures.judges now) c.planned_answer.ensures
