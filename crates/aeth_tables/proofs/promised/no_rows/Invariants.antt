use Rattle.std.proofs.Common.{◌≡◌, ℕ, [], length}
use Rattle.aeth_tables.specs.TableText.{list_at}
use Rattle.aeth_tables.proofs.promised.no_rows.Given as goal

-- So many lists so far, all empty.
abbrev pub invariant-loop-ni : goal.invariant-loop-ni
invariant-loop-ni l = record {
  size : length l.lists.items ≡ l._ni;
  empty : (ni : ℕ) → list_at l.lists.items ni ≡ [];
}
