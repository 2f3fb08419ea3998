use Rattle.std.proofs.Common.{◌≡◌, ◌++◌, length}
use Rattle.aeth_schedule.specs.Timed.{within, writes_from}
use Rattle.aeth_scheduling.proofs.timed.push_writes.Given as goal

-- The writes that are left are still to be appended.
abbrev pub invariant-writes : goal.invariant-writes
invariant-writes l =
    l.list ++ within l.end (writes_from l.cycle l.rest)
    ≡ l.fn.list ++ within l.end (writes_from l.first l.writes)

-- Fewer are left.
abbrev pub decreases-writes : goal.decreases-writes
decreases-writes l = length l.rest
