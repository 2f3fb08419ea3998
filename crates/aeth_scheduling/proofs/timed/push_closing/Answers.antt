use Rattle.std.proofs.Common.{arith, refl, append-nil}
use Rattle.aeth_ni.specs.declared.row.ChannelRow.{ChannelRow}
use Rattle.aeth_schedule.specs.{Lines.end_of, Timed.event_by}
use Rattle.aeth_scheduling.proofs.Within.{within-early, within-late}
use Rattle.aeth_scheduling.proofs.timed.push_closing.Goals as goal

-- None is below the end.
pub returns-then-cycle-from : goal.returns-then-cycle-from
returns-then-cycle-from c =
    let end = c.from.ensures in
    let late = c.if-cycle-from.true in
    rw (
      within-late (λ (row : ChannelRow). record {
        cycle = c.args.cycle;
        event = event_by c.args.closing (end_of row);
      }) c.args.end c.args.cycle c.args.rows.now (λ row. refl) (omega arith),
      append-nil c.args.list.now,
    ) refl

-- All are.
pub returns : goal.returns
returns c =
    let end = c.from.ensures in
    let early = c.if-cycle-from.false in
    rw (within-early (λ (row : ChannelRow). record {
      cycle = c.args.cycle;
      event = event_by c.args.closing (end_of row);
    }) c.args.end c.args.cycle c.args.rows.now (λ row. refl) (omega arith))
    c.push_all_closing.ensures
