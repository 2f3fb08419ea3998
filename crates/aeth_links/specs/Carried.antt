-- What the links carry in a run, as the rows of a log, and its text.
--
--   row_of      the row of a flit
--   rows_on, rows_in, carried_rows      the rows of a link in a cycle, of all links, and of a run
--   lines_of, log_text      the text of rows
-- This project's own.
use Rattle.std.proofs.Common.{ℕ, ◌++◌, List, flat_map, length, map}
use Rattle.std.specs.List.{join_with_byte, range_with_len}
use Rattle.aeth_text.specs.{Limits.comma, Spelling.ended_line}
use Rattle.aeth_clocked.specs.declared.flit.Flit.{Flit}
use Rattle.aeth_report.specs.{Carries.carries, Flows.Run}
use Rattle.aeth_audit.specs.{Lines.column_names, Lines.row_line, declared.row.LinkRow.LinkRow}

-- The row of a flit that enters a link in a cycle.
abbrev pub row_of : ℕ → ℕ → Flit → LinkRow
row_of t l flit = record { cycle = t; link = record { 0 = l }; flit = flit }

module _ (run : Run) where
  -- The rows of what a link carries in a cycle.
  abbrev pub rows_on : ℕ → ℕ → List LinkRow
  rows_on t l = map (row_of t l) (carries run l t)

  -- Those of all links, in their order.
  abbrev pub rows_in : ℕ → List LinkRow
  rows_in t = flat_map (rows_on t) (range_with_len 0 (length run.design.chip.links))

  -- Those of all cycles of the run, in their order.
  abbrev pub carried_rows : List LinkRow
  carried_rows = flat_map rows_in (range_with_len 0 run.cycles)

-- The lines of rows.
abbrev pub lines_of : List LinkRow → List ℕ
lines_of rows = flat_map row_line rows

-- A log of links with these rows: the names of its columns, and a line for each row.
abbrev pub log_text : List LinkRow → List ℕ
log_text rows = ended_line (join_with_byte comma column_names) ++ lines_of rows
