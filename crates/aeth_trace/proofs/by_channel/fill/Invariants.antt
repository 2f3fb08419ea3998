use Rattle.std.proofs.Common.{◌≡◌, Some, length, map, slice_get, take}
use Rattle.aeth_base.specs.declared.ids.Channel.{Channel}
use Rattle.aeth_trace.specs.Channels.{channel_number, list_at, rows_on}
use Rattle.aeth_trace.proofs.by_channel.fill.Given as goal

-- The lists have the rows so far.
abbrev pub invariant-loop-number : goal.invariant-loop-number
invariant-loop-number g l = record {
  size : length l.lists ≡ length l.fn.lists;
  listed : (channel : Channel) → map (slice_get l.rows) (list_at l.lists (channel_number channel))
      ≡ map Some (rows_on g.R.OnChannel.on channel (take l.number l.rows));
}
