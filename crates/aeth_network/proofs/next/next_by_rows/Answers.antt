use Rattle.std.proofs.Common.{◌+◌, arith, subst, sym}
use Rattle.aeth_stimuli.specs.Stimuli.{Take}
use Rattle.aeth_network.specs.Next.{IsAskedBy}
use Rattle.aeth_network.proofs.{KnownFirsts.known-fewer, KnownFirsts.known-more, Passed.passed-left}
use Rattle.aeth_network.proofs.{Passed.passed-of, Passed.past-test, PullLemmas.cycle_of}
use Rattle.aeth_network.proofs.next.next_by_rows.Goals as goal

-- The row is there.
pub bounds-takes-row : goal.bounds-takes-row
bounds-takes-row c =
    (passed-left cycle_of c.rows.next c.args.takes.now c.rows.row
    (c.is_before.ensures.exact.0 c.rows-test.true)).0

pub offset_bounds-takes-row : goal.offset_bounds-takes-row
offset_bounds-takes-row c = let inside = bounds-takes-row c in omega arith

-- One row less is left.
pub rows-smaller : goal.rows-smaller
rows-smaller c =
    (passed-left cycle_of c.rows.next c.args.takes.now c.rows.row
    (c.is_before.ensures.exact.0 c.rows-test.true)).1

-- One row more.
pub rows-preserved : goal.rows-preserved
rows-preserved c =
    known-more (c.rows.row + 1) c.index-takes-row.result
    (λ number t row behind less at has. absurd (omega arith))
    (λ t has. subst
    (λ (one : Take). IsAskedBy c.args.channel_states.now one c.args.takes.now c.args.place t)
    (sym c.index-takes-row.is) has.1)
    c.rows.invariant c.next_by_row-next.ensures

-- The rows that are left are of later cycles.
pub returns : goal.returns
returns c = known-fewer (λ t since early has.
    let past = past-test c.is_before.ensures.exact c.rows-test.false in
    let soon = has.since in
    let low = (passed-of cycle_of c.rows.next c.args.takes.now has.number has.row c.requires.order has.at).0
    (omega arith) in
    record {
      number = has.number;
      item = has.row;
      less = omega arith;
      at = has.at;
      has = (has.from, has.asked);
    }) c.rows.invariant
