use Rattle.std.proofs.Common.{◌∙◌, ap, arith, get_or, set}
use Rattle.std.proofs.lemmas.List.{get_or_default, Edits.map_over_more}
use Rattle.aeth_components.specs.Entering.{entered}
use Rattle.aeth_components.proofs.parts.enter_all.Goals as goal

-- Rows have entered one component more.
pub loop-number-preserved : goal.loop-number-preserved
loop-number-preserved c =
    let parts = c.loop-number.parts in
    let number = c.loop-number.number in
    let default = c.index-parts-number.result in
    let part = get_or parts number default in
    let size = c.loop-number.auto.parts in
    let within = c.loop-number-test.true in
    ap (set parts number) c.enter.ensures
    ∙ map_over_more (entered c.args.rows.now) c.args.parts.now parts number part within
    c.loop-number.invariant (get_or_default parts number default part (omega arith))
