use Rattle.std.proofs.Common.{arith}
use Rattle.aeth_network.proofs.{Passed.passed-few, Passed.passed-left, PullLemmas.cycle_of}
use Rattle.aeth_network.proofs.next.place_before.Goals as goal

-- One row less is left.
pub rows-smaller : goal.rows-smaller
rows-smaller c =
    (passed-left cycle_of c.args.to c.args.takes.now c.rows.place
    (c.is_before.ensures.exact.0 c.rows-test.true)).1

-- Nor are there fewer rows.
pub returns-clause-within : goal.returns-clause-within
returns-clause-within c =
    let few = passed-few cycle_of c.args.to c.args.takes.now in
    omega arith
