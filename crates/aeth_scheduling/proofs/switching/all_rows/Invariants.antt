use Rattle.std.proofs.Common.{◌≡◌, map, take}
use Rattle.aeth_scheduling.proofs.switching.all_rows.Given as goal

-- The rows so far.
abbrev pub invariant-loop-line : goal.invariant-loop-line
invariant-loop-line l = l.rows.items ≡ map (λ line. line.row) (take l.line-index l.lines)
