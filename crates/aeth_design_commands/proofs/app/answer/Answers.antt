use Rattle.std.proofs.lemmas.Result.{err_from_is_err_and}
use Rattle.aeth_plan.specs.declared.design.Design.{Design}
use Rattle.aeth_answers.specs.{Job.done, Places.files_of, Task.Task, Task.ends}
use Rattle.aeth_answers.proofs.FileLemmas.{Answers-done, Answers-stopped, Answers-then}
use Rattle.aeth_design_commands.specs.App.{app_text}
use Rattle.aeth_files.specs.Files.{design_file}
use Rattle.aeth_design_commands.proofs.app.answer.Goals as goal

-- What comes of a design.
abbrev said : Design → Task
said design = ends (done (app_text design.app))

-- There is no design.
pub returns-in_err-design : goal.returns-in_err-design
returns-in_err-design g c =
    let p = err_from_is_err_and c.from_residual.result c.from_residual.ensures.1 in
    rw (p.1, p.2)
    (Answers-stopped (files_of g.H.Shelf c.args.shelf.now)
    (files_of g.H.Shelf c.read_design.new.shelf) (design_file c.args.chip.now c.args.app.now)
    (λ (design : Design). design) said _ c.in_err-design.ensures.judges)

-- The application is summed up.
pub returns : goal.returns
returns g c =
    let now = files_of g.H.Shelf c.read_design.new.shelf in
    let design = c.in_ok-design.design in
    Answers-then (files_of g.H.Shelf c.args.shelf.now) now now
    (design_file c.args.chip.now c.args.app.now) (λ (one : Design). one) design said
    c.ended.result c.in_ok-design.ensures.judges
    (Answers-done now (app_text design.app) c.summed_up.result c.ended.result c.summed_up.ensures
    c.ended.ensures)
