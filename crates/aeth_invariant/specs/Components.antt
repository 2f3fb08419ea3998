-- The components of a network, and what they do in a cycle.
--
--   Net, queue_of      all components, and the queue from which a session sends
--   is_entry, emitted_by, sent_from      what an interface emits, and what a queue is after that
--   emit, driven, after      what all components drive, and what they are after that
--   brought_by, brought      what a flit makes of a queue
--   words_for, credits_for      what it brings to it
--   words_taken      a queue after some takes
-- This project's own.
use Rattle.std.proofs.Common.{ℕ, zero, suc, ◌%◌, ◌==◌, Bool, false, if◌then◌else◌, Option, Some}
use Rattle.std.proofs.Common.{None, map, List, []}
use Rattle.aeth_clocked.specs.declared.flit.Flit.{Flit}
use Rattle.aeth_ni.specs.{Component.Arrival, Component.arrival_of, Queue.QueueState}
use Rattle.aeth_ni.specs.{Queue.flit_landed, Queue.word_taken, Sending.emitted, Sending.flit_sent}
use Rattle.aeth_router.specs.Ports.{flits_for, sole}
use Rattle.aeth_invariant.specs.RoutedSessions.{AtInterface, AtRouter, AtStage, RoutedSessions}
use Rattle.aeth_invariant.specs.RoutedSessions.{WireEnd}

-- All components: the entry of each slot of each interface, and each of its queues, by their
-- numbers; and the flit that a router or a stage holds from each wire. Beside them, how many words
-- of each session were enqueued at its source queue.
pub record Net : Type 0 where
  pub entry : ℕ → ℕ → Option ℕ
  pub queue : ℕ → ℕ → QueueState
  pub held : ℕ → Option Flit
  pub enqueued : ℕ → ℕ

-- An entry names a queue.
abbrev pub is_entry : Option ℕ → ℕ → Bool
is_entry None queue = false
is_entry (Some named) queue = named == queue

-- What an interface emits where its slot has this entry.
abbrev pub emitted_by : Option ℕ → (ℕ → QueueState) → Option Flit
emitted_by None queues = None
emitted_by (Some queue) queues = emitted (queues queue)

-- A queue of it after that.
abbrev pub sent_from : Option ℕ → ℕ → QueueState → QueueState
sent_from entry number queue = if is_entry entry number then flit_sent queue else queue

-- What an arrival makes of a queue.
abbrev pub brought_by : Option Arrival → ℕ → QueueState → QueueState
brought_by None number queue = queue
brought_by (Some arrival) number queue =
    if arrival.header.queue == number
    then flit_landed arrival.header.credits arrival.words queue
    else queue

-- What a flit on a wire makes of it.
abbrev pub brought : Option Flit → ℕ → QueueState → QueueState
brought flit number queue = brought_by (arrival_of flit) number queue

-- The words of it that are for a queue, and the credits.
abbrev pub words_for : ℕ → Option Arrival → List ℕ
words_for number None = []
words_for number (Some arrival) = if arrival.header.queue == number then arrival.words else []

abbrev pub credits_for : ℕ → Option Arrival → ℕ
credits_for number None = 0
credits_for number (Some arrival) =
    if arrival.header.queue == number then arrival.header.credits else 0

-- A queue after some takes.
abbrev pub words_taken : ℕ → QueueState → QueueState
words_taken zero queue = queue
words_taken (suc count) queue = words_taken count (word_taken queue)

module _ (sessions : RoutedSessions) where
  -- The queue from which a session sends, and at which the opposite one lands.
  abbrev pub queue_of : Net → ℕ → QueueState
  queue_of net c = net.queue (sessions.routed_session c).ni (sessions.routed_session c).queue

  -- What is emitted in cycle t on a wire that starts there.
  abbrev pub emit : Net → ℕ → ℕ → WireEnd → Option Flit
  emit net t l (AtInterface n) = emitted_by (net.entry n (t % sessions.size)) (net.queue n)
  emit net t l (AtStage m) = net.held m
  emit net t l (AtRouter r) =
      sole (flits_for (sessions.port l) (map net.held (sessions.incoming r)))

  -- What all components drive in cycle t.
  abbrev pub driven : Net → ℕ → ℕ → Option Flit
  driven net t l = emit net t l (sessions.start l)

  -- The components after that: routers and stages hold no flit.
  abbrev pub after : Net → ℕ → Net
  after net t = record net {
    queue = λ n q. sent_from (net.entry n (t % sessions.size)) q (net.queue n q);
    held = λ l. None;
  }
