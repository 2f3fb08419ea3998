use Rattle.std.proofs.Common.{◌≡◌, ◌++◌, length}
use Rattle.aeth_schedule.specs.Lines.{lines_with}
use Rattle.aeth_scheduling.proofs.lines.push_lines.Given as goal

-- The lines that are left are still to be appended.
abbrev pub invariant-pairs : goal.invariant-pairs
invariant-pairs l =
    l.list.items ++ lines_with l.rows_left l.shapes_left
    ≡ l.fn.list.items ++ lines_with l.rows l.shapes

-- Fewer are left.
abbrev pub decreases-pairs : goal.decreases-pairs
decreases-pairs l = length l.rows_left
