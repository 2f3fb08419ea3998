use Rattle.std.proofs.Common.{◌≡◌}
use Rattle.aeth_seats.specs.{Places.has_free, Seats.interfaces}
use Rattle.aeth_seats.proofs.seats.Seats.with_free.Given as goal

-- The interfaces so far.
abbrev pub invariant-loop-ni : goal.invariant-loop-ni
invariant-loop-ni l = l.nis.items ≡ interfaces l.ni (has_free l.self.places)
