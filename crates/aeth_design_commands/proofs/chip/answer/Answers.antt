use Rattle.std.proofs.lemmas.Result.{err_from_is_err_and}
use Rattle.aeth_chip.specs.Chip.{ChipData}
use Rattle.aeth_answers.specs.{Job.done, Places.files_of, Task.Task, Task.ends}
use Rattle.aeth_answers.proofs.FileLemmas.{Answers-done, Answers-stopped, Answers-then}
use Rattle.aeth_design_commands.specs.Chip.{chip_text}
use Rattle.aeth_files.specs.Files.{chip_file}
use Rattle.aeth_design_commands.proofs.chip.answer.Goals as goal

-- What comes of a chip.
abbrev said : ChipData → Task
said chip = ends (done (chip_text chip))

-- There is no chip.
pub returns-in_err-chip : goal.returns-in_err-chip
returns-in_err-chip g c =
    let p = err_from_is_err_and c.from_residual.result c.from_residual.ensures.1 in
    rw (p.1, p.2)
    (Answers-stopped (files_of g.H.Shelf c.args.shelf.now)
    (files_of g.H.Shelf c.read_chip_file.new.shelf) (chip_file c.args.chip.now)
    (λ (chip : ChipData). chip) said _ c.in_err-chip.ensures)

-- The chip is summed up.
pub returns : goal.returns
returns g c =
    let now = files_of g.H.Shelf c.read_chip_file.new.shelf in
    let chip = c.in_ok-chip.chip in
    Answers-then (files_of g.H.Shelf c.args.shelf.now) now now (chip_file c.args.chip.now)
    (λ (one : ChipData). one) chip said c.ended.result c.in_ok-chip.ensures
    (Answers-done now (chip_text chip) c.summed_up.result c.ended.result c.summed_up.ensures
    c.ended.ensures)
