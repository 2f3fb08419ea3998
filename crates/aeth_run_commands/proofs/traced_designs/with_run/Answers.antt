use Rattle.std.proofs.{Common.refl, lemmas.Result.err_from_is_err_and}
use Rattle.aeth_plan.specs.declared.design.Design.{Design}
use Rattle.aeth_answers.specs.Places.{files_of}
use Rattle.aeth_answers.proofs.FileLemmas.{Judges-made, Judges-stopped}
use Rattle.aeth_run_files.specs.Runs.{RunData, data_of, run_files}
use Rattle.aeth_run_commands.specs.TracedDesigns.{TracedData, seen_traced}
use Rattle.aeth_run_commands.proofs.traced_designs.with_run.Goals as goal

-- What a design is run with, and the design.
abbrev made_of : Design → RunData → TracedData
made_of design run = record { design = design; run = run }

-- There is no accepted plan, or there are no traces.
pub returns-in_err-run-clause-judges : goal.returns-in_err-run-clause-judges
returns-in_err-run-clause-judges g c =
    let p = err_from_is_err_and c.from_residual.result c.from_residual.ensures.1 in
    let design = c.args.design in
    rw (p.1, p.2)
    (Judges-stopped (files_of g.H.Shelf c.args.shelf.now)
    (files_of g.H.Shelf c.read_run.new.shelf) (run_files design c.args.files.now)
    (λ (run : RunData) next. next (made_of design run)) data_of seen_traced _
    c.in_err-run.ensures.judges)

-- There are both.
pub returns-clause-judges : goal.returns-clause-judges
returns-clause-judges g c =
    let design = c.args.design in
    Judges-made (files_of g.H.Shelf c.args.shelf.now) (files_of g.H.Shelf c.read_run.new.shelf)
    (run_files design c.args.files.now) (made_of design) data_of c.in_ok-run.run' seen_traced _ refl
    c.in_ok-run.ensures.judges
