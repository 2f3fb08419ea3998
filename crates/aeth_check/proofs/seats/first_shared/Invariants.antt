use Rattle.std.proofs.Common.{◌≡◌, drop}
use Rattle.aeth_check.specs.{Firsts.first_line, Seats.is_one_seat}
use Rattle.aeth_check.proofs.seats.first_shared.Given as goal

-- The first that is this seat is among those that are left.
abbrev pub invariant-loop-other : goal.invariant-loop-other
invariant-loop-other l =
    first_line (is_one_seat l.one) l.line (drop l.other-index l.others)
    ≡ first_line (is_one_seat l.one) l.first l.others
