use Rattle.std.proofs.Common.{◌≡◌, length}
use Rattle.aeth_audit.specs.Places.{Adds, IsOfGrant}
use Rattle.aeth_audit.proofs.places.put_grant.Given as goal

-- The places so far were put in.
abbrev pub invariant-loop-place : goal.invariant-loop-place
invariant-loop-place l = record {
  size : length l.cells ≡ length l.fn.cells;
  adds : Adds (IsOfGrant l.chip l.number l.grant l.place) l.fn.cells l.cells;
}
