use Rattle.std.proofs.Common.{arith, sym}
use Rattle.aeth_schedule.proofs.Places.{on-few}
use Rattle.aeth_scheduling.proofs.Places.{with-count}
use Rattle.aeth_scheduling.proofs.placing.count_with.Goals as goal

-- Neither channel has more words than there are.
pub overflow_add-result : goal.overflow_add-result
overflow_add-result c =
    let most = c.requires in
    let one = on-few c.args.words.now c.forward.result in
    let other = on-few c.args.words.now c.backward.result in
    let fwd = c.count_on-fwd.ensures in
    let back = c.count_on-back.ensures in
    omega arith

pub overflow_cast-result : goal.overflow_cast-result
overflow_cast-result c =
    let most = c.requires in
    let one = on-few c.args.words.now c.forward.result in
    let other = on-few c.args.words.now c.backward.result in
    let fwd = c.count_on-fwd.ensures in
    let back = c.count_on-back.ensures in
    omega arith

pub returns-clause-most : goal.returns-clause-most
returns-clause-most c =
    let most = c.requires in
    let one = on-few c.args.words.now c.forward.result in
    let other = on-few c.args.words.now c.backward.result in
    let fwd = c.count_on-fwd.ensures in
    let back = c.count_on-back.ensures in
    omega arith

-- Those of the two channels.
pub returns-clause-count : goal.returns-clause-count
returns-clause-count c =
    rw (c.count_on-fwd.ensures, c.count_on-back.ensures, c.forward.ensures, c.backward.ensures)
    (sym (with-count c.args.words.now c.args.conn.0))
