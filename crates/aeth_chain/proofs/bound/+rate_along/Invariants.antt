use Rattle.std.proofs.Common.{length}
use Rattle.aeth_chain.proofs.bound.+rate_along.Given as goal

-- The channels that are left.
abbrev pub decreases-rate_along : goal.decreases-rate_along
decreases-rate_along l = length l.items.now
