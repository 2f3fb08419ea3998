-- What a queue sends in a slot of its own.
--
--   words_sent, credits_sent       how many words and credits a flit takes
--   next_header, next_words        what the next flit has
--   next_flit, behind_flit         that flit, and the state behind it
--   sending, emitted, flit_sent         the route, the flit and the state in a slot of the queue's own
--
-- Words that a counter lets go, and credits that ride in headers: after Æthereal (2005).
use Rattle.std.proofs.Common.{ℕ, ◌-◌, min, ◌==◌, ◌&&◌, ◌||◌, Bool, if◌then◌else◌, Option, None}
use Rattle.std.proofs.Common.{option_map, is_some, List, length, take, drop, slice_index}
use Rattle.aeth_base.specs.Limits.{credits_per_flit, words_per_flit}
use Rattle.aeth_clocked.specs.declared.flit.Flit.{Flit}
use Rattle.aeth_header.specs.{Header.word_of, declared.header.Header.Header}
use Rattle.aeth_ni.specs.{declared.queue.Route.Route, Queue.QueueState}

-- How many words the next flit takes: no more than a flit carries, than wait, and than the other
-- end has room for.
abbrev pub words_sent : QueueState → ℕ
words_sent queue = min (min (length queue.waiting) words_per_flit) queue.counter

-- How many credits it takes: no more than fit its header.
abbrev pub credits_sent : QueueState → ℕ
credits_sent queue = min queue.owed credits_per_flit

-- Whether there is nothing to send.
abbrev pub is_idle : QueueState → Bool
is_idle queue = (words_sent queue == 0) && (credits_sent queue == 0)

-- The header of the next flit, where it takes this route.
abbrev pub next_header : QueueState → Route → Header
next_header queue route = record {
  route = route.ports;
  queue = route.remote;
  credits = credits_sent queue;
  count = words_sent queue;
}

-- The words of the next flit.
abbrev pub next_words : QueueState → List ℕ
next_words queue = take (words_sent queue) queue.waiting

-- The next flit, where it takes this route; an absent word is 0.
abbrev pub next_flit : QueueState → Route → Flit
next_flit queue route = record {
  header = word_of (next_header queue route);
  first = slice_index (next_words queue) 0;
  second = slice_index (next_words queue) 1;
}

-- The route of the flit that is sent, if one is.
abbrev pub sending : QueueState → Option Route
sending queue = if queue.halted || is_idle queue then None else queue.route

-- The flit that is sent in a slot of the queue's own.
abbrev pub emitted : QueueState → Option Flit
emitted queue = option_map (next_flit queue) (sending queue)

-- What is left behind the next flit.
abbrev pub behind_flit : QueueState → QueueState
behind_flit queue = record queue {
  waiting = drop (words_sent queue) queue.waiting;
  counter = queue.counter - words_sent queue;
  owed = queue.owed - credits_sent queue;
}

-- What is left behind a slot of the queue's own.
abbrev pub flit_sent : QueueState → QueueState
flit_sent queue = if is_some (sending queue) then behind_flit queue else queue
