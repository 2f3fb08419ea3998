use Rattle.std.proofs.Common.{◌∙◌, sym}
use Rattle.aeth_trace.proofs.RowLemmas.{rows_from-step}
use Rattle.aeth_trace.proofs.table.rows_of.Goals as goal

-- One more record was read, and its row was put behind the others.
pub loop-row-preserved : goal.loop-row-preserved
loop-row-preserved g c =
    let found = c.if-not-branch.false in
    let taken = rw found at c.in_ok-next_row.ensures.row in
    let step = rows_from-step (g.C.Columns.told c.args.app.now) c.loop-row.row c.loop-row.rows.items _
    _ _ c.in-Some.told taken c.in-Some.ensures.row in
    record {
      reading = c.in_ok-next_row.ensures.reading found;
      found = c.in-Some.ensures.found;
      walk = rw c.in_ok-push-in-Some.ensures.items (sym step) ∙ c.loop-row.invariant.walk;
    }
