use Rattle.std.proofs.lemmas.Result.{err_from_is_err_and}
use Rattle.aeth_base.specs.declared.ids.UseId.{UseId}
use Rattle.aeth_answers.specs.Places.{files_of}
use Rattle.aeth_answers.proofs.FileLemmas.{Judges-stopped, Judges-then}
use Rattle.aeth_files.specs.Uses.{named_use}
use Rattle.aeth_plan_commands.specs.PlannedUses.{plan_for, seen_use}
use Rattle.aeth_plan_commands.proofs.planned_uses.with_use.Goals as goal

-- No use case has the name.
pub returns-in_err-u-clause-judges : goal.returns-in_err-u-clause-judges
returns-in_err-u-clause-judges g c =
    let p = err_from_is_err_and c.from_residual.result c.from_residual.ensures.1 in
    let now = files_of g.H.Shelf c.args.shelf.now in
    rw (p.1, p.2)
    (Judges-stopped now now (named_use c.args.design.app c.args.files.now.name)
    (plan_for c.args.files.now c.args.design) (λ (u : UseId). u) seen_use _
    (c.in_err-u.ensures.judges now))

-- What comes of the use case is judged.
pub returns-clause-judges : goal.returns-clause-judges
returns-clause-judges g c =
    let now = files_of g.H.Shelf c.args.shelf.now in
    Judges-then now now (files_of g.H.Shelf c.with_plan.new.shelf)
    (named_use c.args.design.app c.args.files.now.name) (plan_for c.args.files.now c.args.design)
    (λ (u : UseId). u) c.in_ok-u.u seen_use c.with_plan.result (c.in_ok-u.ensures.judges now)
    c.with_plan.ensures.judges
