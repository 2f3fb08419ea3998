use Rattle.aeth_components.proofs.laws.queues_in_numbers.Goals as goal
use Rattle.aeth_components.proofs.QueueLemmas.{dequeued-is}

-- What is there, at most.
pub returns : goal.returns
returns c = λ times queue within. dequeued-is times queue within
