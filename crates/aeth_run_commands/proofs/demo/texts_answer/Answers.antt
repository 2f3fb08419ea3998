use Rattle.std.proofs.lemmas.Result.{err_from_is_err_and}
use Rattle.aeth_plan.specs.declared.design.Design.{Design}
use Rattle.aeth_answers.proofs.FileLemmas.{Answers-stopped, Answers-then}
use Rattle.aeth_run_commands.specs.Demo.{design_text, planned_demo}
use Rattle.aeth_run_commands.proofs.demo.texts_answer.Goals as goal

-- There is no design.
pub returns-in_err-design : goal.returns-in_err-design
returns-in_err-design g c =
    let p = err_from_is_err_and c.from_residual.result c.from_residual.ensures.1 in
    let texts = c.args.texts.now in
    λ now. rw (p.1, p.2)
    (Answers-stopped now now (design_text texts) (λ (design : Design). design)
    (λ design. planned_demo g.M.Machine.outcome c.args.n texts design) _
    (c.in_err-design.ensures.judges now))

-- The units are granted for the design.
pub returns : goal.returns
returns g c =
    let texts = c.args.texts.now in
    λ now. Answers-then now now now (design_text texts) (λ (design : Design). design)
    c.in_ok-design.design (λ design. planned_demo g.M.Machine.outcome c.args.n texts design)
    c.planned_answer.result (c.in_ok-design.ensures.judges now) (c.planned_answer.ensures now)
