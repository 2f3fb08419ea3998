use Rattle.std.proofs.Common.{◌≡◌, drop}
use Rattle.aeth_text.specs.Order.{line_after, misplaced, misplaced_after}
use Rattle.aeth_plan.specs.Plan.{seat_before}
use Rattle.aeth_plan.proofs.ordered.seats_in_order.Given as goal

-- The first misplaced seat is among those that are left.
abbrev pub invariant-loop-seat : goal.invariant-loop-seat
invariant-loop-seat l =
    misplaced_after seat_before l.last (line_after l.line 1) (drop l.seat-index l.rest)
    ≡ misplaced seat_before l.first l.seats
