use Rattle.std.proofs.lemmas.Result.{err_from_is_err_and}
use Rattle.aeth_base.specs.declared.ids.UseId.{UseId}
use Rattle.aeth_answers.specs.Places.{files_of}
use Rattle.aeth_answers.proofs.FileLemmas.{Answers-stopped, Answers-then}
use Rattle.aeth_files.specs.Uses.{named_use}
use Rattle.aeth_plan_commands.specs.Chain.{items_task}
use Rattle.aeth_plan_commands.proofs.chain.named_answer.Goals as goal

-- No use case has the name.
pub returns-in_err-u : goal.returns-in_err-u
returns-in_err-u g c =
    let p = err_from_is_err_and c.from_residual.result c.from_residual.ensures.1 in
    let now = files_of g.H.Shelf c.args.shelf.now in
    let design = c.args.design.now in
    rw (p.1, p.2)
    (Answers-stopped now now (named_use design.app c.args.chain.now.u.now) (λ (u : UseId). u)
    (λ u. items_task design c.args.files.now u c.args.chain.now.items.now c.args.chain.now.cycles) _
    (c.in_err-u.ensures.judges now))

-- What comes of the use case is answered.
pub returns : goal.returns
returns g c =
    let now = files_of g.H.Shelf c.args.shelf.now in
    let design = c.args.design.now in
    Answers-then now now (files_of g.H.Shelf c.items_answer.new.shelf)
    (named_use design.app c.args.chain.now.u.now) (λ (u : UseId). u) c.in_ok-u.u
    (λ u. items_task design c.args.files.now u c.args.chain.now.items.now c.args.chain.now.cycles)
    c.items_answer.result (c.in_ok-u.ensures.judges now) c.items_answer.ensures
