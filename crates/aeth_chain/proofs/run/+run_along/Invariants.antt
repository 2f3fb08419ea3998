use Rattle.std.proofs.Common.{length}
use Rattle.aeth_chain.proofs.run.+run_along.Given as goal

-- The items that are left.
abbrev pub decreases-run_along : goal.decreases-run_along
decreases-run_along l = length l.items.now
