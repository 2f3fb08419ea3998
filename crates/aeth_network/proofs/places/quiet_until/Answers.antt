use Rattle.std.proofs.Common.{◌≤◌, ap, arith, get_or}
use Rattle.aeth_network.proofs.Passed.{passed-at, passed-few}
use Rattle.aeth_network.proofs.places.quiet_until.Goals as goal

-- The row at the place is not before its own cycle.
pub returns-then-place-rows-clause-quiet : goal.returns-then-place-rows-clause-quiet
returns-then-place-rows-clause-quiet g c =
    let key = g.T.InCycle.cycle in
    let item = c.index-rows-place.result in
    let until = c.cycle_up_to.result in
    let least = c.cycle_up_to.ensures in
    let same = ap key c.index-rows-place.is in
    let before : until ≤ key (get_or c.args.rows.now c.args.place item) = omega (arith, least, same) in
    (passed-at key until c.args.rows.now c.args.place item c.requires c.if-place-rows.true).1
    before

-- No row is left.
pub returns-else-place-rows-clause-quiet : goal.returns-else-place-rows-clause-quiet
returns-else-place-rows-clause-quiet g c =
    let few = passed-few g.T.InCycle.cycle c.args.limit c.args.rows.now in
    let past = c.if-place-rows.false in
    omega (arith, few, past)
