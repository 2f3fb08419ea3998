use Rattle.std.proofs.Common.{◌*◌, ◌-◌}
use Rattle.aeth_server.proofs.LatencyWalk.{Walked}
use Rattle.aeth_server.proofs.service_latency.latency.Given as goal

abbrev pub invariant-cycles : goal.invariant-cycles
invariant-cycles l = Walked l.slots.size l.slots.slots l.cap l.rate l.cycle l.behind l.late

-- The cycles that are left.
abbrev pub decreases-cycles : goal.decreases-cycles
decreases-cycles l = 2 * l.slots.size - l.cycle
