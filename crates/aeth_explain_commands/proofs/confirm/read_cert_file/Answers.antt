use Rattle.std.proofs.Common.{List, map, ℕ, Vec, codes, Global}
use Rattle.std.proofs.lemmas.Result.{err_from_is_err_and}
use Rattle.aeth_answers.specs.{Files.judgement, Files.text_file, Places.files_of}
use Rattle.aeth_answers.proofs.FileLemmas.{Judges-stopped, Judges-then}
use Rattle.aeth_base.specs.declared.ids.LinkId.{LinkId}
use Rattle.aeth_explain.specs.CutsText.{cuts_of_text, line_of}
use Rattle.aeth_group.specs.Members.{groups_of}
use Rattle.aeth_explain_commands.specs.Explain.{refused_tries}
use Rattle.aeth_explain_commands.proofs.confirm.read_cert_file.Goals as goal

-- The file can't be read, or is too long.
pub returns-in_err-bytes-clause-judges : goal.returns-in_err-bytes-clause-judges
returns-in_err-bytes-clause-judges g c =
    let p = err_from_is_err_and c.from_residual.result c.from_residual.ensures.1 in
    let design = c.args.design.now in
    let told_by = cuts_of_text design.chip design.app (groups_of design.app)
    (map line_of (refused_tries design)) in
    rw (p.1, p.2)
    (Judges-stopped (files_of g.H.Shelf c.args.shelf.now) (files_of g.H.Shelf c.read_file.new.shelf)
    (text_file (codes "cert") c.args.name.now)
    (λ bytes. judgement (codes "cert") (told_by bytes))
    (λ (bytes : Vec ℕ Global). bytes.items)
    (λ (blocks : Vec (List (List LinkId)) Global). blocks.items) _ c.in_err-bytes.ensures)

-- The file was read, and is judged.
pub returns-clause-judges : goal.returns-clause-judges
returns-clause-judges g c =
    let now = files_of g.H.Shelf c.read_file.new.shelf in
    let design = c.args.design.now in
    let told_by = cuts_of_text design.chip design.app (groups_of design.app)
    (map line_of (refused_tries design)) in
    Judges-then (files_of g.H.Shelf c.args.shelf.now) now now
    (text_file (codes "cert") c.args.name.now)
    (λ bytes. judgement (codes "cert") (told_by bytes))
    (λ (bytes : Vec ℕ Global). bytes.items) c.in_ok-bytes.bytes
    (λ (blocks : Vec (List (List LinkId)) Global). blocks.items) c.cert_in.result
    c.in_ok-bytes.ensures ((rw c.deref.ensures.value at c.cert_in.ensures.judges) now)
