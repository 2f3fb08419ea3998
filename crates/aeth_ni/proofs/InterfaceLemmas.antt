-- Laws of network interfaces.
use Rattle.std.proofs.Common.{◌≡◌, ◌≢◌, ◌<◌, ℕ, refl, List, length, length-set, get_or-set_other}
use Rattle.std.proofs.lemmas.Grind.{get_or-set_at}
use Rattle.aeth_ni.specs.Queue.{QueueState, empty_queue}
use Rattle.aeth_ni.specs.Interface.{queue_at, with_queue}

-- A change of one queue keeps the number of queues.
pub length-with_queue : (number : ℕ) (change : QueueState → QueueState)
    (queues : List QueueState) → length (with_queue number change queues) ≡ length queues
length-with_queue number change queues =
    length-set queues number (change (queue_at queues number))

-- The queue has changed.
pub queue_at-with_queue_same : (number : ℕ) (change : QueueState → QueueState)
    (queues : List QueueState) → number < length queues
    → queue_at (with_queue number change queues) number ≡ change (queue_at queues number)
queue_at-with_queue_same number change queues within =
    get_or-set_at queues number number _ (empty_queue 0) refl within

-- No other has.
pub queue_at-with_queue_other : (number other : ℕ) (change : QueueState → QueueState)
    (queues : List QueueState) → other ≢ number
    → queue_at (with_queue number change queues) other ≡ queue_at queues other
queue_at-with_queue_other number other change queues apart =
    get_or-set_other queues number other (change (queue_at queues number)) (empty_queue 0) apart
