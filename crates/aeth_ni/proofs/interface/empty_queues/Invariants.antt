use Rattle.std.proofs.Common.{◌≡◌, map, take}
use Rattle.aeth_ni.specs.Queue.{empty_queue}
use Rattle.aeth_ni.proofs.interface.empty_queues.Given as goal

-- The queues of the rooms so far.
abbrev pub invariant-loop-room : goal.invariant-loop-room
invariant-loop-room l = l.queues.items ≡ map empty_queue (take l.room-index l.rooms)
