use Rattle.std.proofs.Common.{◌≡◌, drop, map}
use Rattle.aeth_trace.specs.Rules.{are_known}
use Rattle.aeth_trace.proofs.judging.judge_known.Given as goal

-- The rows that are left break the rule just as all rows do.
abbrev pub invariant-loop-row : goal.invariant-loop-row
invariant-loop-row g l =
    are_known l.field l.count l.number (map g.R.Row.names (drop l.row-index l.rows))
    ≡ are_known l.fn.field l.fn.count 1 (map g.R.Row.names l.fn.rows)
