use Rattle.std.proofs.Common.{◌≡◌, ◌+◌, drop, nat_lt}
use Rattle.aeth_text.specs.Order.{line_after, misplaced, misplaced_after}
use Rattle.aeth_text.proofs.fields.rise.Given as goal

-- The first misplaced number is among those that are left.
abbrev pub invariant-loop-number : goal.invariant-loop-number
invariant-loop-number l =
    misplaced_after nat_lt l.last (line_after 0 (1 + l.number-index)) (drop l.number-index l.rest)
    ≡ misplaced nat_lt 0 l.numbers
