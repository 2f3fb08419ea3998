use Rattle.std.proofs.Common.{◌+◌, ◌-◌, ◌/◌, arith}
use Rattle.aeth_trace.specs.Channels.{channel_number, is_channel, list_at, rows_on}
use Rattle.aeth_trace.proofs.IndexLemmas.{numbers_length}
use Rattle.aeth_trace.proofs.OrderLemmas.{rise-filter, until_at, until_few}
use Rattle.aeth_trace.proofs.by_channel.ByChannel.until.Goals as goal

-- There are none too few and none too many.
pub halve-init : goal.halve-init
halve-init g c =
    let kept = rows_on g.R.OnChannel.on c.args.channel c.args.rows.now in
    let count = numbers_length c.args.rows.now kept
    (list_at c.args.self.now.lists.items (channel_number c.args.channel))
    (c.requires.index c.args.channel) in
    let few = until_few g.R.Row.at c.args.cycle kept in
    let all = c.count-high.ensures in
    record { low = omega arith; high = omega arith; all = omega arith }

-- The row in the middle isn't later.
pub halve-preserved-then-cycle : goal.halve-preserved-then-cycle
halve-preserved-then-cycle g c =
    let on = g.R.OnChannel.on in
    let kept = rows_on on c.args.channel c.args.rows.now in
    let rises = rise-filter g.R.Row.at (λ row. is_channel c.args.channel (on row))
    c.args.rows.now c.requires.order in
    let middle = c.halve.low + (c.halve.high - c.halve.low) / 2 in
    let at = until_at g.R.Row.at c.args.cycle kept middle c.row.result rises c.row.ensures in
    let here = at.0 (rw (← c.cycle.ensures) c.if-cycle.true) in
    record {
      low = omega arith;
      high = c.halve.invariant.high;
      all = c.halve.invariant.all;
    }

-- The row in the middle is later.
pub halve-preserved : goal.halve-preserved
halve-preserved g c =
    let on = g.R.OnChannel.on in
    let kept = rows_on on c.args.channel c.args.rows.now in
    let rises = rise-filter g.R.Row.at (λ row. is_channel c.args.channel (on row))
    c.args.rows.now c.requires.order in
    let middle = c.halve.low + (c.halve.high - c.halve.low) / 2 in
    let at = until_at g.R.Row.at c.args.cycle kept middle c.row.result rises c.row.ensures in
    let past = at.1 (rw (← c.cycle.ensures) c.if-cycle.false) in
    let all = c.halve.invariant.all in
    let within = c.halve-test.true in
    record { low = c.halve.invariant.low; high = past; all = omega arith }
