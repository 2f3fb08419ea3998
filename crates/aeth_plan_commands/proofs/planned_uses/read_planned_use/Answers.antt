use Rattle.std.proofs.lemmas.Result.{err_from_is_err_and}
use Rattle.aeth_plan.specs.declared.design.Design.{Design}
use Rattle.aeth_answers.specs.Places.{files_of}
use Rattle.aeth_answers.proofs.FileLemmas.{Judges-stopped, Judges-then}
use Rattle.aeth_files.specs.Files.{design_file}
use Rattle.aeth_plan_commands.specs.PlannedUses.{seen_use, use_for}
use Rattle.aeth_plan_commands.proofs.planned_uses.read_planned_use.Goals as goal

-- There is no design.
pub returns-in_err-design-clause-judges : goal.returns-in_err-design-clause-judges
returns-in_err-design-clause-judges g c =
    let p = err_from_is_err_and c.from_residual.result c.from_residual.ensures.1 in
    let files = c.args.files.now in
    rw (p.1, p.2)
    (Judges-stopped (files_of g.H.Shelf c.args.shelf.now)
    (files_of g.H.Shelf c.read_design.new.shelf) (design_file files.chip files.app)
    (use_for files) (λ (one : Design). one) seen_use _
    c.in_err-design.ensures.judges)

-- What comes of the design is judged.
pub returns-clause-judges : goal.returns-clause-judges
returns-clause-judges g c =
    let files = c.args.files.now in
    Judges-then (files_of g.H.Shelf c.args.shelf.now) (files_of g.H.Shelf c.read_design.new.shelf)
    (files_of g.H.Shelf c.with_use.new.shelf) (design_file files.chip files.app)
    (use_for files) (λ (one : Design). one) c.in_ok-design.design seen_use
    c.with_use.result c.in_ok-design.ensures.judges c.with_use.ensures.judges
