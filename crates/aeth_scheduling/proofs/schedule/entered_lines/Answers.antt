use Rattle.std.proofs.{Common.arith, Common.sym, lemmas.List.FromFn.map-range_with_len_more}
use Rattle.aeth_scheduling.specs.Entered.{lines_if_entered}
use Rattle.aeth_scheduling.proofs.schedule.entered_lines.Goals as goal

-- One use case more.
pub loop-u-preserved : goal.loop-u-preserved
loop-u-preserved c =
    rw (c.in_ok-push.ensures.items, c.loop-u.invariant, c.in_ok-lines_if_entered.ensures)
    (sym (map-range_with_len_more (lines_if_entered c.args.inputs.now) 0 c.loop-u.u c.loop-u.u (omega arith)))
