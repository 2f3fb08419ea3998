use Rattle.std.proofs.Common.{arith}
use Rattle.aeth_audit.proofs.StartLemmas.{starts-more}
use Rattle.aeth_audit.proofs.starts.starts_of.Goals as goal

-- One more row.
pub loop-row-preserved : goal.loop-row-preserved
loop-row-preserved c =
    let number = c.loop-row.invariant.number in
    record {
      number = omega (arith, number);
      starts = starts-more c.args.rows.now c.loop-row.row-index _ c.loop-row.starts.items
          c.put_until.new.starts.items c.requires.rises c.loop-row-test.true
          c.loop-row.invariant.starts (rw number at c.in_ok-put_until.ensures);
    }
