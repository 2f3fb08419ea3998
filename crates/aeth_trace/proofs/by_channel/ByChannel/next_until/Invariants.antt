use Rattle.std.proofs.Common.{◌≤◌, length}
use Rattle.aeth_trace.specs.Channels.{rows_on, rows_until}
use Rattle.aeth_trace.proofs.by_channel.ByChannel.next_until.Given as goal

-- So many rows aren't later.
abbrev pub invariant-loop-place : goal.invariant-loop-place
invariant-loop-place g l =
    l.place ≤ length (rows_until g.R.Row.at l.cycle (rows_on g.R.OnChannel.on l.channel l.rows))
