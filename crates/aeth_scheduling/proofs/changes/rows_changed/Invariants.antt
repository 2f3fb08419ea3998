use Rattle.std.proofs.Common.{◌≡◌, take}
use Rattle.aeth_scheduling.specs.Made.{changed_rows}
use Rattle.aeth_scheduling.proofs.changes.rows_changed.Given as goal

-- The rows so far.
abbrev pub invariant-loop-line : goal.invariant-loop-line
invariant-loop-line l =
    l.rows.items ≡ changed_rows l.groups l.from.0 l.to.0 (take l.line-index l.lines)
