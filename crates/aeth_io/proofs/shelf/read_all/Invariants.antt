use Rattle.std.proofs.Common.{◌≡◌, ◌≤◌, ◌+◌, ◌-◌, ℕ, true, List, Some, length}
use Rattle.aeth_io.proofs.Reading.{IsReadSoFar}
use Rattle.aeth_io.specs.{Causes.IsFaultless, Limits.max_file_bytes}
use Rattle.aeth_io.proofs.shelf.read_all.Given as goal

abbrev pub invariant-loop-chunk : goal.invariant-loop-chunk
invariant-loop-chunk g l = record {
  read : (bytes : List ℕ) → g.H.Shelf.content l.fn.shelf l.name ≡ Some bytes
      → IsReadSoFar bytes l.text.items;
  faultless : g.H.Shelf.counts_calls ≡ true
      → IsFaultless (g.H.Shelf.faults l.fn.shelf) (g.H.Shelf.faults l.shelf);
  later : (other : List ℕ) → g.H.Shelf.faults l.fn.shelf other ≤ g.H.Shelf.faults l.shelf other;
  kept : (other : List ℕ) → g.H.Shelf.content l.shelf other ≡ g.H.Shelf.content l.fn.shelf other;
}

abbrev pub decreases-loop-chunk : goal.decreases-loop-chunk
decreases-loop-chunk g l = max_file_bytes + 1 - length l.text.items
