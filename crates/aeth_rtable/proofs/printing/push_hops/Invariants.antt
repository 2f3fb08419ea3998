use Rattle.std.proofs.Common.{◌≡◌, ◌++◌, drop, map}
use Rattle.aeth_rtable.specs.RouteText.{hop_line}
use Rattle.aeth_text.specs.Spelling.{text_of_lines}
use Rattle.aeth_rtable.proofs.printing.push_hops.Given as goal

-- The lines that are left are still to be printed.
abbrev pub invariant-loop-row : goal.invariant-loop-row
invariant-loop-row l = l.out.items ++ text_of_lines (map hop_line (drop l.row-index l.rows))
    ≡ l.fn.out.items ++ text_of_lines (map hop_line l.rows)
