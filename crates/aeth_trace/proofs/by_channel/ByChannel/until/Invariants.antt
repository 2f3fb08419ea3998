use Rattle.std.proofs.Common.{◌≤◌, ◌-◌, length}
use Rattle.aeth_trace.specs.Channels.{channel_number, list_at, rows_on, rows_until}
use Rattle.aeth_trace.proofs.by_channel.ByChannel.until.Given as goal

-- The number lies between the bounds.
abbrev pub invariant-halve : goal.invariant-halve
invariant-halve g l = record {
  low : l.low ≤ length (rows_until g.R.Row.at l.cycle (rows_on g.R.OnChannel.on l.channel l.rows));
  high : length (rows_until g.R.Row.at l.cycle (rows_on g.R.OnChannel.on l.channel l.rows)) ≤ l.high;
  all : l.high ≤ length (list_at l.self.lists.items (channel_number l.channel));
}

-- What is left to halve.
abbrev pub decreases-halve : goal.decreases-halve
decreases-halve g l = l.high - l.low
