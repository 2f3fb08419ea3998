use Rattle.std.proofs.Common.{◌≡◌, drop}
use Rattle.aeth_io.specs.MemShelf.{content_of, files_of}
use Rattle.aeth_io.proofs.mem_shelf.find_file.Given as goal

abbrev pub invariant-loop-held : goal.invariant-loop-held
invariant-loop-held l =
    content_of (files_of (drop l.held-index l.files)) l.name ≡ content_of (files_of l.files) l.name
