use Rattle.std.proofs.Common.{◌≡◌, None, drop}
use Rattle.aeth_audit.specs.LinkLog.{are_later}
use Rattle.aeth_audit.proofs.judging.judge_order.Given as goal

-- The rows that are left break the rule just as all rows do.
abbrev pub invariant-loop-row : goal.invariant-loop-row
invariant-loop-row l =
    are_later l.before l.number (drop l.row-index l.rows) ≡ are_later None 1 l.fn.rows
