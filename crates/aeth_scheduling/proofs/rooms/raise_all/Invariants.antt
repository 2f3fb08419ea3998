use Rattle.std.proofs.Common.{◌≡◌, take, length}
use Rattle.aeth_schedule.specs.Rooms.{raised_all}
use Rattle.aeth_scheduling.proofs.rooms.raise_all.Given as goal

-- Those so far have their room.
abbrev pub invariant-loop-one : goal.invariant-loop-one
invariant-loop-one l = record {
  rooms : l.rooms.items ≡ raised_all l.fn.rooms.items (take l.one-index l.buffers);
  count : length l.rooms.items ≡ length l.fn.rooms.items;
}
