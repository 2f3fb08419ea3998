use Rattle.std.proofs.Common.{take}
use Rattle.aeth_chip.specs.Index.{HasEntries}
use Rattle.aeth_app.specs.Ends.{AreEndCounts, IsPlaced}
use Rattle.aeth_app.proofs.ends.positions_of.Given as goal

-- The connections so far.
abbrev pub invariant-loop-connection : goal.invariant-loop-connection
invariant-loop-connection l = record {
  counts : AreEndCounts l.cores (take l.connection-index l.connections) l.counts.items;
  positions : HasEntries (IsPlaced l.connections) l.connection-index l.positions.items;
}
