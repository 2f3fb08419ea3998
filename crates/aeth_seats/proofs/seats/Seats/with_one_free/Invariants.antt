use Rattle.std.proofs.Common.{◌≡◌}
use Rattle.aeth_seats.specs.Seats.{interfaces, is_crowded}
use Rattle.aeth_seats.proofs.seats.Seats.with_one_free.Given as goal

-- The interfaces so far.
abbrev pub invariant-loop-ni : goal.invariant-loop-ni
invariant-loop-ni l = l.nis.items ≡ interfaces l.ni (is_crowded l.self.places)
