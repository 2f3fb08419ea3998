use Rattle.std.proofs.{Common.List, lemmas.Result.err_from_is_err_and}
use Rattle.aeth_group.specs.Members.{groups_of}
use Rattle.aeth_tables.specs.Tables.{tables_of}
use Rattle.aeth_trace.specs.declared.receivers.PullRow.{PullRow}
use Rattle.aeth_chain.specs.{Chain.bound_of, Chain.legs_of, ChainRun.chain_log}
use Rattle.aeth_chain.specs.{ChainText.chain_text, Shapes.shapes_in}
use Rattle.aeth_answers.specs.{Places.files_of, Task.ends}
use Rattle.aeth_answers.proofs.FileLemmas.{Answers-done, Answers-stopped, Answers-then}
use Rattle.aeth_run_files.specs.TraceFiles.{receivers_file}
use Rattle.aeth_plan_commands.specs.Chain.{chain_job}
use Rattle.aeth_plan_commands.proofs.chain.pulled_answer.Goals as goal

-- There are no rows of receivers.
pub returns-in_err-receivers : goal.returns-in_err-receivers
returns-in_err-receivers g c =
    let p = err_from_is_err_and c.from_residual.result c.from_residual.ensures.1 in
    let design = c.args.accepted.now.design.now in
    let run = c.args.run.now in
    rw (p.1, p.2)
    (Answers-stopped (files_of g.H.Shelf c.args.shelf.now)
    (files_of g.H.Shelf c.read_receivers_file.new.shelf)
    (receivers_file design.app c.args.files.now.receivers) (λ (rows : List PullRow). rows)
    (λ pulls. ends (chain_job design c.args.accepted.now.planned.now.plan run.u run.items.items run.cycles
    c.args.words.now pulls)) _ c.in_err-receivers.ensures.judges)

-- The text of the chain is printed.
pub returns : goal.returns
returns g c =
    let now = files_of g.H.Shelf c.read_receivers_file.new.shelf in
    let design = c.args.accepted.now.design.now in
    let run = c.args.run.now in
    let plan = c.args.accepted.now.planned.now.plan in
    let pulls = c.in_ok-receivers.receivers in
    let legs = legs_of run.items.items (shapes_in (tables_of design.chip design.app
    (groups_of design.app) plan run.u) run.items.items) in
    Answers-then (files_of g.H.Shelf c.args.shelf.now) now now
    (receivers_file design.app c.args.files.now.receivers) (λ (rows : List PullRow). rows) pulls
    (λ rows. ends (chain_job design plan run.u run.items.items run.cycles c.args.words.now rows))
    c.ended.result c.in_ok-receivers.ensures.judges
    (Answers-done now
    (chain_text (chain_log legs c.args.words.now pulls run.cycles) (bound_of legs) design.app run.u.0)
    c.printed.result c.ended.result c.printed.ensures c.ended.ensures)
