use Rattle.std.proofs.Common.{◌∙◌, sym, arith}
use Rattle.aeth_document.proofs.WalkLemmas.{place_of-within}
use Rattle.aeth_app.proofs.PartLemmas.{named_marks-known, named_marks-unknown}
use Rattle.aeth_app.proofs.parts.mark.Goals as goal

-- The place of a name is one of the marks'.
pub index_mut-requires : goal.index_mut-requires
index_mut-requires c =
    let within = place_of-within c.args.names.now c.args.text.now c.in-Some.place
    (sym c.in-Some.ensures) in
    omega arith

-- The text is a name.
pub returns-in-Some : goal.returns-in-Some
returns-in-Some c = λ texts are.
    rw are (named_marks-known c.args.names.now texts c.args.text.now c.in-Some.place
    c.in-Some.ensures)

-- It is none.
pub returns-in_default : goal.returns-in_default
returns-in_default c = λ texts are.
    are ∙ named_marks-unknown c.args.names.now texts c.args.text.now c.in_default.ensures
