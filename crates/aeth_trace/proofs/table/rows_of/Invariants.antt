use Rattle.std.proofs.Common.{◌≡◌}
use Rattle.aeth_trace.specs.{Found.AreFound, Rules.rows_from, Words.connection_names}
use Rattle.aeth_records.specs.Left.{IsReading, left}
use Rattle.aeth_document.proofs.Fronts.{with_front}
use Rattle.aeth_trace.proofs.table.rows_of.Given as goal

-- The rows that were read, and behind them those of the records that are left, are all rows.
abbrev pub invariant-loop-row : goal.invariant-loop-row
invariant-loop-row g l = record {
  reading : IsReading l.reader;
  found : AreFound (connection_names l.app) l.found;
  walk : with_front l.rows.items (rows_from (g.C.Columns.told l.app) l.row (left l.reader))
      ≡ rows_from (g.C.Columns.told l.fn.app) 1 (left l.fn.reader);
}
