use Rattle.std.proofs.Common.{◌∙◌, ◌++◌, ◌∷◌, [], ap, arith, codes, decimal, sym}
use Rattle.std.proofs.Math.ListN.{drop_of_length-le}
use Rattle.aeth_text.{specs.Limits.line_feed, specs.Limits.space, proofs.LineLemmas.behind-five}
use Rattle.aeth_report.specs.LogText.{landing_line, landing_room}
use Rattle.aeth_report.proofs.lines.write_landing.Goals as goal

-- Each number stands before those that were written, and nothing behind the last byte.
pub returns-clause-written : goal.returns-clause-written
unfolding landing_line
returns-clause-written c =
    let row = c.args.row.now in
    let full = c.requires in
    let none = drop_of_length-le c.args.line.now {i = landing_room} (omega arith) in
    let value = c.write_field-at.ensures.written
    ∙ ap (λ rest. decimal row.value ++ line_feed ∷ rest) none in
    let due = c.write_field-at-2.ensures.written
    ∙ ap (λ rest. decimal row.due ++ space ∷ rest) value in
    let landed = c.write_field-at-3.ensures.written
    ∙ ap (λ rest. decimal row.landed ++ space ∷ rest) due in
    let offered = c.write_field-at-4.ensures.written
    ∙ ap (λ rest. decimal row.offered ++ space ∷ rest) landed in
    let index = c.write_field-at-5.ensures.written
    ∙ ap (λ rest. decimal c.args.index ++ space ∷ rest) offered in
    c.write_text.ensures.written
    ∙ ap (λ rest. codes "land " ++ rest) index
    ∙ ap (λ rest. codes "land " ++ rest) (sym (behind-five space (decimal c.args.index)
    (decimal row.offered) (decimal row.landed) (decimal row.due) (decimal row.value)
    (line_feed ∷ [])))
