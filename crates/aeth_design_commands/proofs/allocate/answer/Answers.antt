use Rattle.std.proofs.lemmas.Result.{err_from_is_err_and}
use Rattle.aeth_alloc.specs.{Allocation.allocation, Prices.prices_of}
use Rattle.aeth_group.specs.Members.{groups_of}
use Rattle.aeth_plan.specs.declared.design.Design.{Design}
use Rattle.aeth_answers.specs.{Places.files_of, Task.Task, Task.ends}
use Rattle.aeth_answers.proofs.FileLemmas.{Answers-ended, Answers-stopped, Answers-then}
use Rattle.aeth_design_commands.specs.Allocate.{allocate_job}
use Rattle.aeth_design_commands.proofs.AllocationLemmas.{outcome_job-below, outcome_job-command}
use Rattle.aeth_files.specs.Files.{design_file}
use Rattle.aeth_design_commands.proofs.allocate.answer.Goals as goal

-- What comes of a design.
abbrev said : Design → Task
said design = ends (allocate_job design.chip design.app)

-- There is no design.
pub returns-in_err-design : goal.returns-in_err-design
returns-in_err-design g c =
    let p = err_from_is_err_and c.from_residual.result c.from_residual.ensures.1 in
    rw (p.1, p.2)
    (Answers-stopped (files_of g.H.Shelf c.args.shelf.now)
    (files_of g.H.Shelf c.read_design.new.shelf) (design_file c.args.chip.now c.args.app.now)
    (λ (design : Design). design) said _ c.in_err-design.ensures.judges)

-- The application is allocated.
pub returns : goal.returns
returns g c =
    let now = files_of g.H.Shelf c.read_design.new.shelf in
    let chip = c.in_ok-design.design.chip in
    let app = c.in_ok-design.design.app in
    let outcome = allocation chip app (groups_of app) (prices_of app.price) in
    Answers-then (files_of g.H.Shelf c.args.shelf.now) now now
    (design_file c.args.chip.now c.args.app.now) (λ (one : Design). one) c.in_ok-design.design
    said c.ended.result c.in_ok-design.ensures.judges
    (Answers-ended now (allocate_job chip app) c.allocated.result c.ended.result
    (outcome_job-below chip app outcome outcome.refused)
    (outcome_job-command chip app outcome outcome.refused) c.allocated.ensures c.ended.ensures)
