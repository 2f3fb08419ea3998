use Rattle.std.proofs.Common.{◌≡◌, ◌≤◌, ◌<◌, ℕ, None}
use Rattle.aeth_ni.specs.Component.{emitted_by, queue_at_cycle}
use Rattle.aeth_ni.proofs.interface.Ni.next_sending.Given as goal

-- Nothing is sent in the cycles so far.
abbrev pub invariant-loop-cycle : goal.invariant-loop-cycle
invariant-loop-cycle l =
    (cycle : ℕ) → l.from ≤ cycle → cycle < l.cycle
    → emitted_by (queue_at_cycle l.self.entries cycle) l.self.queues ≡ None
