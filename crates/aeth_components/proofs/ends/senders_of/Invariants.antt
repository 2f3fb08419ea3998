use Rattle.std.proofs.Common.{◌≡◌, ℕ, Some, length, slice_get}
use Rattle.aeth_components.specs.Ends.{IsSender}
use Rattle.aeth_components.proofs.ends.senders_of.Given as goal

-- The senders of the wires so far.
abbrev pub invariant-loop-wire : goal.invariant-loop-wire
invariant-loop-wire l = record {
  size : length l.senders.items ≡ l.wire;
  at : (wire number : ℕ) → slice_get l.senders.items wire ≡ Some number
      → IsSender l.chip wire number;
}
