use Rattle.std.proofs.{Common.arith, lemmas.Result.err_from_is_err_and}
use Rattle.aeth_demo.specs.Limits.{demo_cycles}
use Rattle.aeth_group.specs.Members.{groups_of}
use Rattle.aeth_machine.specs.{RunInputs.inputs_of, declared.traces.Traces.Traces}
use Rattle.aeth_tables.specs.Switching.{spans_of}
use Rattle.aeth_answers.specs.Task.{ends}
use Rattle.aeth_answers.proofs.FileLemmas.{Answers-done, Answers-stopped, Answers-then}
use Rattle.aeth_run_commands.specs.Demo.{summary_job, summary_text, traces_texts}
use Rattle.aeth_run_commands.proofs.demo.traced_answer.Goals as goal

-- The inputs are accepted.
pub summed_up-requires-clause-accepted : goal.summed_up-requires-clause-accepted
summed_up-requires-clause-accepted g c =
    c.in_ok-traces.ensures.accepted demo_cycles (omega arith)

-- There are no traces.
pub returns-in_err-traces : goal.returns-in_err-traces
returns-in_err-traces g c =
    let p = err_from_is_err_and c.from_residual.result c.from_residual.ensures.1 in
    let design = c.args.design.now in
    let plan = c.args.planned.now.plan in
    λ now. rw (p.1, p.2)
    (Answers-stopped now now
    (traces_texts c.args.texts.now design.app
    (spans_of design.chip design.app (groups_of design.app) plan)) (λ (traces : Traces). traces)
    (λ traces. ends (summary_job g.M.Machine.outcome c.args.n
    (inputs_of design plan traces demo_cycles))) _ (c.in_err-traces.ensures.judges now))

-- The log of the inputs is summed up.
pub returns : goal.returns
returns g c =
    let outcome = g.M.Machine.outcome in
    let design = c.args.design.now in
    let plan = c.args.planned.now.plan in
    let traces = c.in_ok-traces.traces in
    λ now. Answers-then now now now
    (traces_texts c.args.texts.now design.app
    (spans_of design.chip design.app (groups_of design.app) plan)) (λ (one : Traces). one) traces
    (λ one. ends (summary_job outcome c.args.n (inputs_of design plan one demo_cycles)))
    c.ended.result (c.in_ok-traces.ensures.judges now)
    (Answers-done now
    (summary_text c.args.n plan (outcome (inputs_of design plan traces demo_cycles)))
    c.summed_up.result c.ended.result c.summed_up.ensures c.ended.ensures)
