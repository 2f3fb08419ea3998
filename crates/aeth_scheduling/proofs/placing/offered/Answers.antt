use Rattle.std.proofs.Common.{◌+◌, ◌-◌, ◌/◌, arith}
use Rattle.aeth_trace.specs.{Channels.is_channel, Words.words_on, declared.words.WordRow.WordRow}
use Rattle.aeth_trace.proofs.OrderLemmas.{rise-filter, until_at, until_few}
use Rattle.aeth_schedule.proofs.Places.{on-few}
use Rattle.aeth_scheduling.proofs.placing.offered.Goals as goal

-- There are none too few and none too many.
pub halve-init : goal.halve-init
halve-init c =
    let few = until_few (λ (row : WordRow). row.cycle) c.args.cycle (words_on c.args.words.now c.args.channel) in
    let all = c.count_on-high.ensures in
    record { low = omega arith; high = omega arith; all = omega arith }

-- The word in the middle isn't later.
pub halve-preserved-then-nth_word-cycle : goal.halve-preserved-then-nth_word-cycle
halve-preserved-then-nth_word-cycle c =
    let kept = words_on c.args.words.now c.args.channel in
    let rises = rise-filter (λ (row : WordRow). row.cycle) (λ (row : WordRow). is_channel c.args.channel row.channel)
    c.args.words.now c.requires.order in
    let middle = c.halve.low + (c.halve.high - c.halve.low) / 2 in
    let at = until_at (λ (row : WordRow). row.cycle) c.args.cycle kept middle c.nth_word.result rises
    c.nth_word.ensures in
    let here = at.0 c.if-nth_word-cycle.true in
    record {
      low = omega arith;
      high = c.halve.invariant.high;
      all = c.halve.invariant.all;
    }

-- The word in the middle is later.
pub halve-preserved : goal.halve-preserved
halve-preserved c =
    let kept = words_on c.args.words.now c.args.channel in
    let rises = rise-filter (λ (row : WordRow). row.cycle) (λ (row : WordRow). is_channel c.args.channel row.channel)
    c.args.words.now c.requires.order in
    let middle = c.halve.low + (c.halve.high - c.halve.low) / 2 in
    let at = until_at (λ (row : WordRow). row.cycle) c.args.cycle kept middle c.nth_word.result rises
    c.nth_word.ensures in
    let past = at.1 c.if-nth_word-cycle.false in
    let all = c.halve.invariant.all in
    let within = c.halve-test.true in
    record { low = c.halve.invariant.low; high = past; all = omega arith }

-- There are no more than words.
pub returns-clause-most : goal.returns-clause-most
returns-clause-most c =
    let few = on-few c.args.words.now c.args.channel in
    let within = c.halve.invariant.high in
    let all = c.halve.invariant.all in
    let low = c.halve.invariant.low in
    let some = until_few (λ (row : WordRow). row.cycle) c.args.cycle (words_on c.args.words.now c.args.channel) in
    let most = c.requires.few in
    omega arith
