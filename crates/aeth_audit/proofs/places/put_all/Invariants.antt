use Rattle.std.proofs.Common.{◌≡◌, length}
use Rattle.aeth_audit.specs.Places.{Adds, IsOfGrants}
use Rattle.aeth_audit.proofs.places.put_all.Given as goal

-- The grants so far were put in.
abbrev pub invariant-loop-number : goal.invariant-loop-number
invariant-loop-number l = record {
  size : length l.cells ≡ length l.fn.cells;
  adds : Adds (IsOfGrants l.chip l.grants l.number) l.fn.cells l.cells;
}
