use Rattle.std.proofs.Common.{◌≡◌, ◌⊎◌, ◌-◌, ◌+◌, ◌≤◌, ℕ, Some, length, slice_get}
use Rattle.aeth_audit.proofs.starts.put_until.Given as goal

-- The cycles so far that had no number got it.
abbrev pub invariant-cycles : goal.invariant-cycles
invariant-cycles l = record {
  longer : length l.initial.starts.items ≤ length l.starts.items;
  only : (at count : ℕ) → slice_get l.starts.items at ≡ Some count
      → slice_get l.initial.starts.items at ≡ Some count
      ⊎ ((count ≡ l.number) × (length l.initial.starts.items ≤ at) × (at ≤ l.cycle));
}

abbrev pub decreases-cycles : goal.decreases-cycles
decreases-cycles l = l.cycle + 1 - length l.starts.items
