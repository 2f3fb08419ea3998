use Rattle.std.proofs.{Common.codes, lemmas.Result.err_from_is_err_and}
use Rattle.aeth_plan.specs.{Plan.PlanData, declared.design.Planned.Planned}
use Rattle.aeth_answers.specs.{Job.done, Places.files_of, Task.Task, Task.ends}
use Rattle.aeth_answers.proofs.FileLemmas.{Answers-done, Answers-stopped, Answers-then}
use Rattle.aeth_files.specs.Plans.{accepted_file}
use Rattle.aeth_design_commands.proofs.check.plan_answer.Goals as goal

-- What comes of a plan.
abbrev said : PlanData → Task
said plan = ends (done (codes "accepted\n"))

-- There is no accepted plan.
pub returns-in_err-_planned : goal.returns-in_err-_planned
returns-in_err-_planned g c =
    let p = err_from_is_err_and c.from_residual.result c.from_residual.ensures.1 in
    rw (p.1, p.2)
    (Answers-stopped (files_of g.H.Shelf c.args.shelf.now)
    (files_of g.H.Shelf c.read_accepted.new.shelf)
    (accepted_file c.args.design.now.chip c.args.design.now.app c.args.plan.now)
    (λ (planned : Planned). planned.plan) said _ c.in_err-_planned.ensures.judges)

-- The plan is accepted.
pub returns : goal.returns
returns g c =
    let now = files_of g.H.Shelf c.read_accepted.new.shelf in
    Answers-then (files_of g.H.Shelf c.args.shelf.now) now now
    (accepted_file c.args.design.now.chip c.args.design.now.app c.args.plan.now)
    (λ (planned : Planned). planned.plan) c.in_ok-_planned._planned said c.ended.result
    c.in_ok-_planned.ensures.judges
    (Answers-done now (codes "accepted\n") c.accepted.result c.ended.result c.accepted.ensures
    c.ended.ensures)
