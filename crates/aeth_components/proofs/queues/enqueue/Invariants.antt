use Rattle.std.proofs.Common.{◌≡◌, ◌≤◌, ◌-◌, ◌++◌, take, length}
use Rattle.aeth_components.proofs.QueueLemmas.{with_waiting}
use Rattle.aeth_ni.specs.{Interface.changed, Interface.queue_at, Limits.waiting_words}
use Rattle.aeth_components.proofs.queues.enqueue.Given as goal

-- The words so far wait behind those that waited before, and no more than fit.
abbrev pub invariant-loop-word : goal.invariant-loop-word
invariant-loop-word l =
    let before = (queue_at l.fn.ni.queues l.queue).waiting in
    record {
      count : l.count ≡ l.word-index;
      ni : l.ni ≡ changed l.queue (with_waiting (before ++ take l.word-index l.words)) l.fn.ni;
      fitting : l.word-index ≤ waiting_words - length before;
    }
