use Rattle.std.proofs.Common.{◌≡◌, ◌≤◌, length}
use Rattle.aeth_components.specs.Queues.{dequeued}
use Rattle.aeth_ni.specs.Interface.{changed, queue_at}
use Rattle.aeth_components.proofs.queues.dequeue.Given as goal

-- As many words are taken as turns are done.
abbrev pub invariant-loop-count : goal.invariant-loop-count
invariant-loop-count l = record {
  ni : l.ni ≡ changed l.queue (dequeued l.count) l.fn.ni;
  held : l.count ≤ length (queue_at l.fn.ni.queues l.queue).received;
}
