use Rattle.std.proofs.lemmas.Result.{err_from_is_err_and}
use Rattle.aeth_plan.specs.declared.design.Design.{Design}
use Rattle.aeth_answers.specs.Places.{files_of}
use Rattle.aeth_answers.proofs.FileLemmas.{Answers-stopped, Answers-then}
use Rattle.aeth_design_commands.specs.Check.{plan_task}
use Rattle.aeth_files.specs.Files.{design_file}
use Rattle.aeth_design_commands.proofs.check.answer.Goals as goal

-- There is no design.
pub returns-in_err-design : goal.returns-in_err-design
returns-in_err-design g c =
    let p = err_from_is_err_and c.from_residual.result c.from_residual.ensures.1 in
    rw (p.1, p.2)
    (Answers-stopped (files_of g.H.Shelf c.args.shelf.now)
    (files_of g.H.Shelf c.read_design.new.shelf) (design_file c.args.chip.now c.args.app.now)
    (λ (design : Design). design) (λ design. plan_task design c.args.plan.now) _
    c.in_err-design.ensures.judges)

-- What comes of the design is answered.
pub returns : goal.returns
returns g c =
    Answers-then (files_of g.H.Shelf c.args.shelf.now)
    (files_of g.H.Shelf c.read_design.new.shelf) (files_of g.H.Shelf c.plan_answer.new.shelf)
    (design_file c.args.chip.now c.args.app.now) (λ (one : Design). one)
    c.in_ok-design.design (λ design. plan_task design c.args.plan.now)
    c.plan_answer.result c.in_ok-design.ensures.judges c.plan_answer.ensures
