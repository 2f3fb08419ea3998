use Rattle.std.proofs.Common.{◌≡◌, drop}
use Rattle.aeth_plan.specs.Seated.{ni_of}
use Rattle.aeth_check.proofs.seats.ni_of.Given as goal

-- The core's seat is among those that are left.
abbrev pub invariant-loop-line : goal.invariant-loop-line
invariant-loop-line l = ni_of (drop l.line-index l.seats) l.core ≡ ni_of l.seats l.core
