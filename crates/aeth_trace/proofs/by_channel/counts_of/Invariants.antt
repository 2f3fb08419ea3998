use Rattle.std.proofs.Common.{◌≡◌, ◌*◌, length}
use Rattle.aeth_trace.proofs.by_channel.counts_of.Given as goal

-- There is a count for each channel.
abbrev pub invariant-loop-row : goal.invariant-loop-row
invariant-loop-row g l = length l.counts.items ≡ 2 * l.connections
