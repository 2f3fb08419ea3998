use Rattle.std.proofs.lemmas.Result.{err_from_is_err_and}
use Rattle.aeth_plan.specs.declared.design.Planned.{Planned}
use Rattle.aeth_answers.proofs.FileLemmas.{Answers-stopped, Answers-then}
use Rattle.aeth_run_commands.specs.Demo.{granted_plan, traced_demo}
use Rattle.aeth_run_commands.proofs.demo.planned_answer.Goals as goal

-- A unit is refused.
pub returns-in_err-planned : goal.returns-in_err-planned
returns-in_err-planned g c =
    let p = err_from_is_err_and c.from_residual.result c.from_residual.ensures.1 in
    let design = c.args.design.now in
    λ now. rw (p.1, p.2)
    (Answers-stopped now now (granted_plan design.chip design.app)
    (λ (planned : Planned). planned.plan)
    (λ plan. traced_demo g.M.Machine.outcome c.args.n c.args.texts.now design plan) _
    (c.in_err-planned.ensures.judges now))

-- The traces are judged for the plan.
pub returns : goal.returns
returns g c =
    let design = c.args.design.now in
    λ now. Answers-then now now now (granted_plan design.chip design.app)
    (λ (planned : Planned). planned.plan) c.in_ok-planned.planned
    (λ plan. traced_demo g.M.Machine.outcome c.args.n c.args.texts.now design plan)
    c.traced_answer.result (c.in_ok-planned.ensures.judges now) (c.traced_answer.ensures now)
