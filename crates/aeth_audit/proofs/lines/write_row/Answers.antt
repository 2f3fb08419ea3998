use Rattle.std.proofs.Common.{◌∙◌, ◌++◌, ◌∷◌, [], ap, arith, decimal, sym}
use Rattle.std.proofs.Math.ListN.{drop_of_length-le}
use Rattle.aeth_text.{specs.Limits.comma, specs.Limits.line_feed, proofs.LineLemmas.behind-five}
use Rattle.aeth_audit.specs.Lines.{line_room}
use Rattle.aeth_audit.proofs.lines.write_row.Goals as goal

-- Each number stands before those that were written, and nothing behind the last byte.
pub returns-clause-written : goal.returns-clause-written
returns-clause-written c =
    let row = c.args.row.now in
    let full = c.requires in
    let none = drop_of_length-le c.args.line.now {i = line_room} (omega arith) in
    let last = c.write_field-at.ensures.written
    ∙ ap (λ rest. decimal row.flit.second ++ line_feed ∷ rest) none in
    let four = c.write_field-at-2.ensures.written
    ∙ ap (λ rest. decimal row.flit.first ++ comma ∷ rest) last in
    let three = c.write_field-at-3.ensures.written
    ∙ ap (λ rest. decimal row.flit.header ++ comma ∷ rest) four in
    let two = c.write_field-at-4.ensures.written
    ∙ ap (λ rest. decimal row.link.0 ++ comma ∷ rest) three in
    c.write_field.ensures.written
    ∙ ap (λ rest. decimal row.cycle ++ comma ∷ rest) two
    ∙ sym (behind-five comma (decimal row.cycle) (decimal row.link.0) (decimal row.flit.header)
    (decimal row.flit.first) (decimal row.flit.second) (line_feed ∷ []))
