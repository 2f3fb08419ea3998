use Rattle.std.proofs.Common.{◌≡◌}
use Rattle.aeth_records.specs.Left.{IsReading, left}
use Rattle.aeth_trace.specs.Rules.{rows_from}
use Rattle.aeth_document.proofs.Fronts.{with_front}
use Rattle.aeth_audit.specs.LinkLog.{link_row_in}
use Rattle.aeth_audit.proofs.reading.rows_of.Given as goal

-- The rows that were read, and behind them those of the records that are left, are all rows.
abbrev pub invariant-loop-row : goal.invariant-loop-row
invariant-loop-row l = record {
  reading : IsReading l.reader;
  walk : with_front l.rows.items (rows_from link_row_in l.row (left l.reader))
      ≡ rows_from link_row_in 1 (left l.fn.reader);
}
