use Rattle.std.proofs.Common.{◌≡◌, Some, length, slice_get, ℕ}
use Rattle.std.specs.declared.{vec.Vec.Vec, alloc.Global.Global}
use Rattle.aeth_group.specs.Rows.{uses_among}
use Rattle.aeth_group.proofs.rows.rows_of.Given as goal

-- The rows of the groups so far.
abbrev pub invariant-loop-group : goal.invariant-loop-group
invariant-loop-group l = record {
  size : length l.rows.items ≡ l.group;
  each : (g : ℕ) (row : Vec ℕ Global) → slice_get l.rows.items g ≡ Some row
      → row.items ≡ uses_among l.uses g;
}
