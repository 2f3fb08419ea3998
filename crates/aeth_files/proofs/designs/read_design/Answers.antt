use Rattle.std.proofs.lemmas.Result.{err_from_is_err_and}
use Rattle.aeth_answers.specs.Places.{files_of}
use Rattle.aeth_files.specs.Files.{app_file, chip_file}
use Rattle.aeth_files.proofs.DesignLemmas.{both-given, both-no_app, both-no_chip}
use Rattle.aeth_files.proofs.designs.read_design.Goals as goal

-- There is no chip.
pub returns-in_err-chip-clause-judges : goal.returns-in_err-chip-clause-judges
returns-in_err-chip-clause-judges g c =
    let p = err_from_is_err_and c.from_residual.result c.from_residual.ensures.1 in
    rw (p.1, p.2)
    (both-no_chip (chip_file c.args.chip.now) (λ chip. app_file chip c.args.app.now)
    (files_of g.H.Shelf c.args.shelf.now) (files_of g.H.Shelf c.read_chip_file.new.shelf) _
    c.in_err-chip.ensures)

-- There is no application.
pub returns-in_err-app-clause-judges : goal.returns-in_err-app-clause-judges
returns-in_err-app-clause-judges g c =
    let p = err_from_is_err_and c.from_residual-in_err-app.result
    c.from_residual-in_err-app.ensures.1 in
    rw (p.1, p.2)
    (both-no_app (chip_file c.args.chip.now) (λ chip. app_file chip c.args.app.now)
    (files_of g.H.Shelf c.args.shelf.now) (files_of g.H.Shelf c.read_chip_file.new.shelf)
    (files_of g.H.Shelf c.read_app_file.new.shelf) c.in_ok-chip.chip c.in_ok-chip.ensures _
    c.in_err-app.ensures.judges)

-- Both are read.
pub returns-clause-judges : goal.returns-clause-judges
returns-clause-judges g c =
    both-given (chip_file c.args.chip.now) (λ chip. app_file chip c.args.app.now)
    (files_of g.H.Shelf c.args.shelf.now) (files_of g.H.Shelf c.read_chip_file.new.shelf)
    (files_of g.H.Shelf c.read_app_file.new.shelf) c.in_ok-chip.chip c.in_ok-chip.ensures
    c.in_ok-app.app c.in_ok-app.ensures.judges
