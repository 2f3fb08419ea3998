use Rattle.std.proofs.{Common.codes, lemmas.Result.err_from_is_err_and}
use Rattle.aeth_group.specs.Members.{groups_of}
use Rattle.aeth_plan.specs.PlanText.{plan_of}
use Rattle.aeth_answers.specs.Places.{files_of}
use Rattle.aeth_files.proofs.FileLemmas.{file-judged, file-unread}
use Rattle.aeth_files.proofs.files.read_plan_file.Goals as goal

-- The file can't be read, or is too long.
pub returns-in_err-bytes-clause-judges : goal.returns-in_err-bytes-clause-judges
returns-in_err-bytes-clause-judges g c =
    let p = err_from_is_err_and c.from_residual.result c.from_residual.ensures.1 in
    let told_by = plan_of c.args.chip.now c.args.app.now (groups_of c.args.app.now) in
    rw (p.1, p.2)
    (file-unread (codes "plan") c.args.name.now told_by (files_of g.H.Shelf c.args.shelf.now)
    (files_of g.H.Shelf c.read_file.new.shelf) _ c.in_err-bytes.ensures)

-- The file was read, and is judged.
pub returns-clause-judges : goal.returns-clause-judges
returns-clause-judges g c =
    let now = files_of g.H.Shelf c.read_file.new.shelf in
    let told_by = plan_of c.args.chip.now c.args.app.now (groups_of c.args.app.now) in
    file-judged (codes "plan") c.args.name.now told_by (files_of g.H.Shelf c.args.shelf.now)
    now c.in_ok-bytes.bytes c.plan_in.result c.in_ok-bytes.ensures
    ((rw c.deref.ensures.value at c.plan_in.ensures.judges) now)
