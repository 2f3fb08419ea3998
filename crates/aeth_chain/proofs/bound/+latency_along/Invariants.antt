use Rattle.std.proofs.Common.{length}
use Rattle.aeth_chain.proofs.bound.+latency_along.Given as goal

-- The channels that are left.
abbrev pub decreases-latency_along : goal.decreases-latency_along
decreases-latency_along l = length l.items.now
