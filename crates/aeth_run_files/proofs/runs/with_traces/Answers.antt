use Rattle.std.proofs.{Common.refl, lemmas.Result.err_from_is_err_and}
use Rattle.aeth_group.specs.Members.{groups_of}
use Rattle.aeth_plan.specs.Plan.{PlanData}
use Rattle.aeth_machine.specs.declared.traces.Traces.{Traces}
use Rattle.aeth_tables.specs.Switching.{spans_of}
use Rattle.aeth_answers.specs.Places.{files_of}
use Rattle.aeth_answers.proofs.FileLemmas.{Judges-made, Judges-stopped}
use Rattle.aeth_run_files.specs.{TraceFiles.traces_files, Runs.RunData, Runs.data_of}
use Rattle.aeth_run_files.proofs.runs.with_traces.Goals as goal

-- A plan with traces.
abbrev with_plan : PlanData → Traces → RunData
with_plan plan traces = record { plan = plan; traces = traces }

-- There are no traces.
pub returns-in_err-traces-clause-judges : goal.returns-in_err-traces-clause-judges
returns-in_err-traces-clause-judges g c =
    let p = err_from_is_err_and c.from_residual.result c.from_residual.ensures.1 in
    let design = c.args.design.now in
    let plan = c.args.planned.plan in
    rw (p.1, p.2)
    (Judges-stopped (files_of g.H.Shelf c.args.shelf.now)
    (files_of g.H.Shelf c.read_traces.new.shelf)
    (traces_files design.app (spans_of design.chip design.app (groups_of design.app) plan)
    c.args.files.now) (λ traces next. next (with_plan plan traces))
    (λ (traces : Traces). traces) data_of _ c.in_err-traces.ensures.judges)

-- The plan and the traces are given.
pub returns-clause-judges : goal.returns-clause-judges
returns-clause-judges g c =
    let design = c.args.design.now in
    let plan = c.args.planned.plan in
    Judges-made (files_of g.H.Shelf c.args.shelf.now)
    (files_of g.H.Shelf c.read_traces.new.shelf)
    (traces_files design.app (spans_of design.chip design.app (groups_of design.app) plan)
    c.args.files.now) (with_plan plan)
    (λ (traces : Traces). traces) c.in_ok-traces.traces data_of _ refl
    c.in_ok-traces.ensures.judges
