use Rattle.std.proofs.Common.{◌≡◌, ℕ, [], length}
use Rattle.aeth_audit.specs.Places.{cell_at}
use Rattle.aeth_audit.proofs.places.empty_cells.Given as goal

-- So many cells so far, all empty.
abbrev pub invariant-loop-cell : goal.invariant-loop-cell
invariant-loop-cell l = record {
  size : length l.cells.items ≡ l._cell;
  empty : (n : ℕ) → cell_at l.cells.items n ≡ [];
}
