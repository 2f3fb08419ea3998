use Rattle.std.proofs.{Common.codes, lemmas.Result.err_from_is_err_and}
use Rattle.aeth_chip.specs.ChipFile.{chip_of}
use Rattle.aeth_answers.specs.Places.{files_of}
use Rattle.aeth_files.proofs.FileLemmas.{file-judged, file-unread}
use Rattle.aeth_files.proofs.files.read_chip_file.Goals as goal

-- The file can't be read, or is too long.
pub returns-in_err-bytes : goal.returns-in_err-bytes
returns-in_err-bytes g c =
    let p = err_from_is_err_and c.from_residual.result c.from_residual.ensures.1 in
    rw (p.1, p.2)
    (file-unread (codes "chip") c.args.name.now chip_of (files_of g.H.Shelf c.args.shelf.now)
    (files_of g.H.Shelf c.read_file.new.shelf) _ c.in_err-bytes.ensures)

-- The file was read, and is judged.
pub returns : goal.returns
returns g c =
    let now = files_of g.H.Shelf c.read_file.new.shelf in
    file-judged (codes "chip") c.args.name.now chip_of (files_of g.H.Shelf c.args.shelf.now)
    now c.in_ok-bytes.bytes c.chip_in.result c.in_ok-bytes.ensures
    ((rw c.deref.ensures.value at c.chip_in.ensures) now)
