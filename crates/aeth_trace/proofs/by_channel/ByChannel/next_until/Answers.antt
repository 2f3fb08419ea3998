use Rattle.std.proofs.Common.{arith}
use Rattle.aeth_trace.specs.Channels.{channel_number, is_channel, list_at, rows_on}
use Rattle.aeth_trace.proofs.IndexLemmas.{numbers_length}
use Rattle.aeth_trace.proofs.OrderLemmas.{rise-filter, until_at, until_few}
use Rattle.aeth_trace.proofs.by_channel.ByChannel.next_until.Goals as goal

-- The row at this place is later, and all before it aren't.
pub returns-then-cycle : goal.returns-then-cycle
returns-then-cycle g c =
    let on = g.R.OnChannel.on in
    let kept = rows_on on c.args.channel c.args.rows.now in
    let rises = rise-filter g.R.Row.at (λ row. is_channel c.args.channel (on row))
    c.args.rows.now c.requires.order in
    let at = until_at g.R.Row.at c.args.cycle kept c.loop-place.place c.row.result rises
    c.row.ensures in
    let few = at.1 (rw (← c.cycle.ensures) c.if-cycle.true) in
    let many = c.loop-place.invariant in
    omega arith

-- One more row isn't later.
pub loop-place-preserved : goal.loop-place-preserved
loop-place-preserved g c =
    let on = g.R.OnChannel.on in
    let kept = rows_on on c.args.channel c.args.rows.now in
    let rises = rise-filter g.R.Row.at (λ row. is_channel c.args.channel (on row))
    c.args.rows.now c.requires.order in
    let at = until_at g.R.Row.at c.args.cycle kept c.loop-place.place c.row.result rises
    c.row.ensures in
    let here = at.0 (rw (← c.cycle.ensures) c.if-cycle.false) in
    omega arith

-- No row is later.
pub returns : goal.returns
returns g c =
    let kept = rows_on g.R.OnChannel.on c.args.channel c.args.rows.now in
    let count = numbers_length c.args.rows.now kept
    (list_at c.args.self.now.lists.items (channel_number c.args.channel))
    (c.requires.index c.args.channel) in
    let few = until_few g.R.Row.at c.args.cycle kept in
    let many = c.loop-place.invariant in
    let past = c.loop-place-test.false in
    let one = c.count.ensures in
    let other = c.count-place-end.ensures in
    omega arith
