use Rattle.std.proofs.Common.{◌≡◌, ◌<◌, ◌≤◌, ◌+◌, ℕ, Some, slice_get, slice_index}
use Rattle.aeth_base.specs.declared.ids.NiId.{NiId}
use Rattle.aeth_chip.specs.Paths.{IsOnwardDistance}
use Rattle.aeth_explain.proofs.senders.most_at.Given as goal

-- It is enough for the interfaces so far.
abbrev pub invariant-loop-i : goal.invariant-loop-i
invariant-loop-i l = (k : ℕ) (b : NiId) (more : ℕ) → k < l.i → slice_get l.to k ≡ Some b
    → IsOnwardDistance l.far l.fn.router b (Some more)
    → slice_index l.most_to b.0 ≤ l.most + more
