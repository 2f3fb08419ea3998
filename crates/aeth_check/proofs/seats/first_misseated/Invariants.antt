use Rattle.std.proofs.Common.{◌≡◌, drop}
use Rattle.aeth_check.specs.Seats.{first_misseated}
use Rattle.aeth_check.proofs.seats.first_misseated.Given as goal

-- The first misseated core is among those that are left.
abbrev pub invariant-loop-number : goal.invariant-loop-number
invariant-loop-number l =
    first_misseated l.seats l.number (drop l.number l.app.cores)
    ≡ first_misseated l.seats 0 l.app.cores
