use Rattle.std.proofs.Common.{◌≡◌, ◌++◌, ◌+◌, drop, length, map, take}
use Rattle.std.specs.List.{enumerate_from}
use Rattle.aeth_text.specs.Spelling.{text_of_lines}
use Rattle.aeth_report.specs.LogText.{landing_line}
use Rattle.aeth_report.proofs.text.push_landings.Given as goal

-- The landings that are left are still to be printed.
abbrev pub invariant-loop-row : goal.invariant-loop-row
invariant-loop-row l = record {
  counted : l.index ≡ l.row-index;
  printed : l.out.items ++ text_of_lines
      (map landing_line (enumerate_from (l.row-index + 1) (drop l.row-index l.rows)))
      ≡ l.fn.out.items ++ text_of_lines (map landing_line (enumerate_from 1 l.rows));
  front : take (length l.fn.out.items) l.out.items ≡ l.fn.out.items;
}
