-- What is done at one queue within a cycle.
--
--   fits, filled                the words that a source queue takes up
--   dequeues, dequeued          the words that are taken out of a receive queue
--   words_for, brought_by       the words that the last flit brought to a queue
--
-- This project's own.
use Rattle.std.proofs.Common.{ℕ, zero, suc, ◌-◌, min, ◌==◌, if◌then◌else◌, List, ◌++◌, length, take}
use Rattle.std.proofs.Common.{Option, Some, None}
use Rattle.aeth_router.specs.declared.part.Part.{Part}
use Rattle.aeth_router.specs.declared.part.Part.TheVariants.{Interface, Router, Stage, TableRouter}
use Rattle.aeth_ni.specs.{Limits.waiting_words, Queue.QueueState, Queue.word_taken}

-- The first of these words, until eight wait.
abbrev pub fitting : QueueState → List ℕ → List ℕ
fitting queue words = take (waiting_words - length queue.waiting) words

-- How many that are, and the queue in which they wait.
abbrev pub fits : List ℕ → QueueState → ℕ
fits words queue = length (fitting queue words)

abbrev pub filled : List ℕ → QueueState → QueueState
filled words queue = record queue { waiting = queue.waiting ++ fitting queue words }

-- Words are taken so many times.
abbrev pub dequeued : ℕ → QueueState → QueueState
dequeued zero queue = queue
dequeued (suc times) queue = word_taken (dequeued times queue)

-- How many words that are.
abbrev pub dequeues : ℕ → QueueState → ℕ
dequeues times queue = min times (length queue.received)

-- The words of the last flit that are for this queue.
abbrev pub words_for : ℕ → Option (ℕ × ℕ) → ℕ
words_for queue None = 0
words_for queue (Some last) = if last.0 == queue then last.1 else 0

-- Those that came to an interface; none to a router or a stage.
abbrev pub brought_by : ℕ → Part → ℕ
brought_by queue (Interface ni) = words_for queue ni.last
brought_by queue (Router router) = 0
brought_by queue (TableRouter router) = 0
brought_by queue (Stage stage) = 0
