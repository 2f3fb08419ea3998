use Rattle.std.proofs.Common.{length}
use Rattle.aeth_audit.proofs.LogLemmas.{are_rows}
use Rattle.aeth_audit.proofs.log.read_log.Goals as goal

-- The rows keep the rules.
pub returns-clause-rows : goal.returns-clause-rows
returns-clause-rows c =
    are_rows (length c.args.chip.now.links) c.args.bytes.now c.in_ok-rows.rows.items
    c.in_ok-judge_known.field-0 c.in_ok-judge_order.field-0 c.in_ok-judge_count.field-0
    c.in_ok-rows.ensures
    (rw (c.deref.ensures.value, c.links.ensures.links) at c.in_ok-judge_known.ensures)
    (rw c.deref-2.ensures.value at c.in_ok-judge_order.ensures)
    (rw (c.len.ensures, c.in_ok-rows.rows.ok.0) at c.in_ok-judge_count.ensures)
