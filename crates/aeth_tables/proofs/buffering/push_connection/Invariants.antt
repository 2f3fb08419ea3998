use Rattle.std.proofs.Common.{◌≡◌, ◌++◌, flat_map}
use Rattle.std.specs.List.{range_with_len}
use Rattle.aeth_tables.specs.Buffers.{buffers_for}
use Rattle.aeth_tables.proofs.buffering.push_connection.Given as goal

-- What the channels need in the groups so far.
abbrev pub invariant-loop-g : goal.invariant-loop-g
invariant-loop-g l = l.buffers.items ≡ l.fn.buffers.items
    ++ flat_map (buffers_for l.chip l.app l.groups l.plan l.conn.0) (range_with_len 0 l.g)
