use Rattle.std.proofs.{Common.arith, lemmas.Result.err_from_is_err_and}
use Rattle.aeth_accepted.specs.Inputs.{run_of}
use Rattle.aeth_answers.specs.{Places.files_of, Task.ends}
use Rattle.aeth_answers.proofs.FileLemmas.{Answers-done, Answers-stopped, Answers-then}
use Rattle.aeth_links.specs.Carried.{carried_rows, log_text}
use Rattle.aeth_run_commands.specs.TracedDesigns.{seen_traced, traced_design, traced_inputs}
use Rattle.aeth_cli.specs.Commands.Links.{links_job}
use Rattle.aeth_cli.proofs.commands.links.answer.Goals as goal

-- The inputs are accepted.
pub carried-requires-clause-accepted : goal.carried-requires-clause-accepted
carried-requires-clause-accepted g c =
    let most = c.requires.1 in
    c.in_ok-one.ensures.accepted c.args.run.now.cycles (omega (arith, most))

-- There is no design with an accepted plan, or there are no traces.
pub returns-in_err-one : goal.returns-in_err-one
returns-in_err-one g c =
    let p = err_from_is_err_and c.from_residual.result c.from_residual.ensures.1 in
    let run = c.args.run.now in
    rw (p.1, p.2)
    (Answers-stopped (files_of g.H.Shelf c.args.shelf.now)
    (files_of g.H.Shelf c.read_traced.new.shelf) (traced_design run.files) seen_traced
    (λ one. ends (links_job (traced_inputs one run.cycles))) _ c.in_err-one.ensures.judges)

-- The log of what the links carry is printed.
pub returns : goal.returns
returns g c =
    let now = files_of g.H.Shelf c.read_traced.new.shelf in
    let run = c.args.run.now in
    let inputs = traced_inputs (seen_traced c.in_ok-one.one) run.cycles in
    Answers-then (files_of g.H.Shelf c.args.shelf.now) now now (traced_design run.files) seen_traced
    c.in_ok-one.one (λ one. ends (links_job (traced_inputs one run.cycles)))
    c.ended.result c.in_ok-one.ensures.judges
    (Answers-done now (log_text (carried_rows (run_of inputs))) c.carried.result c.ended.result
    c.carried.ensures c.ended.ensures)
