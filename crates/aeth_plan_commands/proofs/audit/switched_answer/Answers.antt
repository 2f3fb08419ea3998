use Rattle.std.proofs.{Common.List, lemmas.Result.err_from_is_err_and}
use Rattle.aeth_group.specs.Members.{groups_of}
use Rattle.aeth_tables.specs.Switching.{spans_of}
use Rattle.aeth_trace.specs.declared.switches.SwitchRow.{SwitchRow}
use Rattle.aeth_answers.specs.Places.{files_of}
use Rattle.aeth_answers.proofs.FileLemmas.{Answers-stopped, Answers-then}
use Rattle.aeth_plan_commands.specs.Audit.{log_task}
use Rattle.aeth_run_files.specs.TraceFiles.{switches_file}
use Rattle.aeth_plan_commands.proofs.audit.switched_answer.Goals as goal

-- There are no switches.
pub returns-in_err-switches : goal.returns-in_err-switches
returns-in_err-switches g c =
    let p = err_from_is_err_and c.from_residual.result c.from_residual.ensures.1 in
    let design = c.args.accepted.now.design.now in
    let plan = c.args.accepted.now.planned.now.plan in
    let files = c.args.files.now in
    rw (p.1, p.2)
    (Answers-stopped (files_of g.H.Shelf c.args.shelf.now)
    (files_of g.H.Shelf c.read_switches_file.new.shelf)
    (switches_file design.app (spans_of design.chip design.app (groups_of design.app) plan)
    files.switches) (λ (rows : List SwitchRow). rows)
    (λ switches. log_task design plan switches files c.args.cycles) _
    c.in_err-switches.ensures.judges)

-- What comes of the switches is answered.
pub returns : goal.returns
returns g c =
    let design = c.args.accepted.now.design.now in
    let plan = c.args.accepted.now.planned.now.plan in
    let files = c.args.files.now in
    Answers-then (files_of g.H.Shelf c.args.shelf.now)
    (files_of g.H.Shelf c.read_switches_file.new.shelf)
    (files_of g.H.Shelf c.log_answer.new.shelf)
    (switches_file design.app (spans_of design.chip design.app (groups_of design.app) plan)
    files.switches) (λ (rows : List SwitchRow). rows) c.in_ok-switches.switches
    (λ switches. log_task design plan switches files c.args.cycles) c.log_answer.result
    c.in_ok-switches.ensures.judges c.log_answer.ensures
