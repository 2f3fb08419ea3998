use Rattle.std.{proofs.Common.◌≡◌, proofs.Common.flat_map, specs.List.range_with_len}
use Rattle.aeth_tables.specs.Buffers.{buffers_in}
use Rattle.aeth_tables.proofs.buffering.buffers.Given as goal

-- What the channels of the connections so far need.
abbrev pub invariant-loop-c : goal.invariant-loop-c
invariant-loop-c l = l.buffers.items
    ≡ flat_map (buffers_in l.chip l.app l.groups l.plan) (range_with_len 0 l.c)
