use Rattle.std.proofs.Common.{◌≡◌, drop, ◌==◌}
use Rattle.aeth_check.specs.Firsts.{first_line}
use Rattle.aeth_check.proofs.seats.first_of.Given as goal

-- The core's seat is among those that are left.
abbrev pub invariant-loop-seat : goal.invariant-loop-seat
invariant-loop-seat l =
    first_line (λ line. line.core.0 == l.core.0) l.line (drop l.seat-index l.seats)
    ≡ first_line (λ line. line.core.0 == l.core.0) l.first l.seats
