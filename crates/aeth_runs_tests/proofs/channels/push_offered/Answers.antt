use Rattle.std.proofs.Common.{◌+◌, arith}
use Rattle.aeth_trace.{specs.Words.words_on, proofs.OrderLemmas.until_later}
use Rattle.aeth_runs_tests.proofs.channels.push_offered.Goals as goal

-- Up to the next cycle there aren't fewer.
pub loop-cycle-preserved : goal.loop-cycle-preserved
loop-cycle-preserved c =
    let cycle = c.loop-cycle.cycle in
    let later = until_later (λ row. row.cycle) cycle (cycle + 1)
    (words_on c.args.words.now c.args.channel) (omega arith) in
    let here = c.offered-known.ensures in
    omega arith
