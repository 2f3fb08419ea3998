use Rattle.std.proofs.Common.{◌≡◌, drop, map}
use Rattle.aeth_trace.specs.Rules.{are_known}
use Rattle.aeth_audit.proofs.judging.judge_known.Given as goal

-- The rows that are left break the rule just as all rows do.
abbrev pub invariant-loop-row : goal.invariant-loop-row
invariant-loop-row l =
    are_known 2 l.links l.number (map (λ row. row.link.0) (drop l.row-index l.rows))
    ≡ are_known 2 l.fn.links 1 (map (λ row. row.link.0) l.fn.rows)
