use Rattle.std.proofs.Common.{◌≡◌, ◌<◌, ◌≤◌, ◌+◌, ℕ, Contains, Some, length, slice_index}
use Rattle.aeth_base.specs.declared.ids.{NiId.NiId, RouterId.RouterId}
use Rattle.aeth_chip.specs.Paths.{IsOnwardDistance}
use Rattle.aeth_explain.proofs.senders.Sender.new.Given as goal

-- The entries so far are enough.
abbrev pub invariant-loop-router : goal.invariant-loop-router
invariant-loop-router l = record {
  count : length l.at.items ≡ l.router;
  near : (r : RouterId) (b : NiId) (more : ℕ) → r.0 < l.router → Contains l.trial.to b
      → IsOnwardDistance l.far r b (Some more)
      → slice_index l.most_to.items b.0 ≤ slice_index l.at.items r.0 + more;
}
