use Rattle.std.proofs.Common.{◌≡◌, drop, map}
use Rattle.aeth_trace.specs.Rules.{are_in_order}
use Rattle.aeth_trace.proofs.judging.judge_order.Given as goal

-- The rows that are left break the rule just as all rows do.
abbrev pub invariant-loop-row : goal.invariant-loop-row
invariant-loop-row g l =
    are_in_order l.last l.number (map g.R.Row.at (drop l.row-index l.rows))
    ≡ are_in_order 0 1 (map g.R.Row.at l.fn.rows)
