use Rattle.std.proofs.Common.{take}
use Rattle.aeth_app.specs.Ends.{AreEndCounts}
use Rattle.aeth_app.proofs.ends.end_counts.Given as goal

-- The connections so far.
abbrev pub invariant-loop-connection : goal.invariant-loop-connection
invariant-loop-connection l =
    AreEndCounts l.cores (take l.connection-index l.connections) l.counts.items
