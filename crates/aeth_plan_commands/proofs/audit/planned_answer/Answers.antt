use Rattle.std.proofs.lemmas.Result.{err_from_is_err_and}
use Rattle.aeth_plan.specs.declared.design.Planned.{Planned}
use Rattle.aeth_answers.specs.Places.{files_of}
use Rattle.aeth_answers.proofs.FileLemmas.{Answers-stopped, Answers-then}
use Rattle.aeth_plan_commands.specs.Audit.{switched_task}
use Rattle.aeth_files.specs.Plans.{accepted_file}
use Rattle.aeth_plan_commands.proofs.audit.planned_answer.Goals as goal

-- There is no accepted plan.
pub returns-in_err-planned : goal.returns-in_err-planned
returns-in_err-planned g c =
    let p = err_from_is_err_and c.from_residual.result c.from_residual.ensures.1 in
    let design = c.args.design.now in
    let files = c.args.files.now in
    rw (p.1, p.2)
    (Answers-stopped (files_of g.H.Shelf c.args.shelf.now)
    (files_of g.H.Shelf c.read_accepted.new.shelf)
    (accepted_file design.chip design.app files.plan) (λ (planned : Planned). planned.plan)
    (λ plan. switched_task design plan files c.args.cycles) _ c.in_err-planned.ensures.judges)

-- What comes of the plan is answered.
pub returns : goal.returns
returns g c =
    let design = c.args.design.now in
    let files = c.args.files.now in
    Answers-then (files_of g.H.Shelf c.args.shelf.now)
    (files_of g.H.Shelf c.read_accepted.new.shelf)
    (files_of g.H.Shelf c.switched_answer.new.shelf)
    (accepted_file design.chip design.app files.plan) (λ (planned : Planned). planned.plan)
    c.in_ok-planned.planned (λ plan. switched_task design plan files c.args.cycles)
    c.switched_answer.result c.in_ok-planned.ensures.judges c.switched_answer.ensures
