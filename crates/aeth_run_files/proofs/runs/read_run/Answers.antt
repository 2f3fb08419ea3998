use Rattle.std.proofs.lemmas.Result.{err_from_is_err_and}
use Rattle.aeth_plan.specs.declared.design.Planned.{Planned}
use Rattle.aeth_answers.specs.Places.{files_of}
use Rattle.aeth_answers.proofs.FileLemmas.{Judges-stopped, Judges-then}
use Rattle.aeth_files.specs.Plans.{accepted_file}
use Rattle.aeth_run_files.specs.Runs.{data_of, traced_files}
use Rattle.aeth_run_files.proofs.runs.read_run.Goals as goal

-- There is no accepted plan.
pub returns-in_err-planned-clause-judges : goal.returns-in_err-planned-clause-judges
returns-in_err-planned-clause-judges g c =
    let p = err_from_is_err_and c.from_residual.result c.from_residual.ensures.1 in
    let design = c.args.design.now in
    let files = c.args.files.now in
    rw (p.1, p.2)
    (Judges-stopped (files_of g.H.Shelf c.args.shelf.now)
    (files_of g.H.Shelf c.read_accepted.new.shelf)
    (accepted_file design.chip design.app files.plan) (traced_files design files)
    (λ (planned : Planned). planned.plan) data_of _ c.in_err-planned.ensures.judges)

-- The traces for the plan are judged.
pub returns-clause-judges : goal.returns-clause-judges
returns-clause-judges g c =
    let design = c.args.design.now in
    let files = c.args.files.now in
    Judges-then (files_of g.H.Shelf c.args.shelf.now)
    (files_of g.H.Shelf c.read_accepted.new.shelf) (files_of g.H.Shelf c.with_traces.new.shelf)
    (accepted_file design.chip design.app files.plan) (traced_files design files)
    (λ (planned : Planned). planned.plan) c.in_ok-planned.planned data_of c.with_traces.result
    c.in_ok-planned.ensures.judges c.with_traces.ensures.judges
