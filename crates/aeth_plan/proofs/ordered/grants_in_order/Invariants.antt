use Rattle.std.proofs.Common.{◌≡◌, drop}
use Rattle.aeth_text.specs.Order.{line_after, misplaced, misplaced_after}
use Rattle.aeth_plan.specs.Plan.{grant_before}
use Rattle.aeth_plan.proofs.ordered.grants_in_order.Given as goal

-- The first misplaced grant is among those that are left.
abbrev pub invariant-loop-grant : goal.invariant-loop-grant
invariant-loop-grant l =
    misplaced_after grant_before l.last (line_after l.line 1) (drop l.grant-index l.rest)
    ≡ misplaced grant_before l.first l.grants
