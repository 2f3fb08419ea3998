use Rattle.std.proofs.lemmas.Result.{err_from_is_err_and}
use Rattle.aeth_report.specs.LogText.{text_of}
use Rattle.aeth_answers.specs.{Places.files_of, Task.ends}
use Rattle.aeth_answers.proofs.FileLemmas.{Answers-done, Answers-stopped, Answers-then}
use Rattle.aeth_run_commands.specs.Simulate.{simulation_job}
use Rattle.aeth_run_commands.specs.TracedDesigns.{seen_traced, traced_design, traced_inputs}
use Rattle.aeth_run_commands.proofs.simulate.answer.Goals as goal

-- The inputs are accepted.
pub printed_of-requires-clause-accepted : goal.printed_of-requires-clause-accepted
printed_of-requires-clause-accepted g c =
    c.in_ok-one.ensures.accepted c.args.run.now.cycles c.requires.1

-- There is no design with an accepted plan, or there are no traces.
pub returns-in_err-one : goal.returns-in_err-one
returns-in_err-one g c =
    let p = err_from_is_err_and c.from_residual.result c.from_residual.ensures.1 in
    let outcome = g.M.Machine.outcome in
    let run = c.args.run.now in
    rw (p.1, p.2)
    (Answers-stopped (files_of g.H.Shelf c.args.shelf.now)
    (files_of g.H.Shelf c.read_traced.new.shelf) (traced_design run.files) seen_traced
    (λ one. ends (simulation_job outcome (traced_inputs one run.cycles))) _
    c.in_err-one.ensures.judges)

-- The log of the inputs is printed.
pub returns : goal.returns
returns g c =
    let now = files_of g.H.Shelf c.read_traced.new.shelf in
    let outcome = g.M.Machine.outcome in
    let run = c.args.run.now in
    let inputs = traced_inputs (seen_traced c.in_ok-one.one) run.cycles in
    Answers-then (files_of g.H.Shelf c.args.shelf.now) now now (traced_design run.files)
    seen_traced c.in_ok-one.one
    (λ one. ends (simulation_job outcome (traced_inputs one run.cycles)))
    c.ended.result c.in_ok-one.ensures.judges
    (Answers-done now (text_of inputs.app (outcome inputs)) c.printed_of.result c.ended.result
    c.printed_of.ensures c.ended.ensures)
