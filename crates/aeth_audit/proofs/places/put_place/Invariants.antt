use Rattle.std.proofs.Common.{◌≡◌, length}
use Rattle.aeth_audit.specs.Places.{Adds, IsInCell}
use Rattle.aeth_audit.proofs.places.put_place.Given as goal

-- The slots so far were put in.
abbrev pub invariant-loop-slot : goal.invariant-loop-slot
invariant-loop-slot l = record {
  size : length l.cells ≡ length l.fn.cells;
  adds : Adds (IsInCell l.first l.slots.slots l.slot l.place) l.fn.cells l.cells;
}
