use Rattle.std.proofs.Common.{arith}
use Rattle.aeth_chain.proofs.lane.next_pulling.Goals as goal

-- The run isn't long.
pub overflow_add-result : goal.overflow_add-result
overflow_add-result c = omega (arith, c.requires.within, c.requires.lane.most)
