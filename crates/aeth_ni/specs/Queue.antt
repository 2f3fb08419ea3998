-- One queue number of a network interface: its state, and what each call makes of it.
--
--   QueueState, IsRoute, IsQueue   the state, and what holds of every one
--   empty_queue                    the state at first
--   offered, word_taken, finished       what `offer`, `take` and `finish` make of a state
--   stopped                        what `halt` makes of it
--   with_route, without_route      what the writes of a route make of it
--   words_in, flit_landed               what a flit has, and the state once that has come
--
-- Source and receive queues, and credits that ride in headers: after Æthereal (2005). The sizes
-- are this project's own.
use Rattle.std.proofs.Common.{◌≡◌, ◌<◌, ℕ, ◌+◌, ◌^◌, min, ◌==◌, Bool, true, false, if◌then◌else◌}
use Rattle.std.proofs.Common.{Option, Some, None, IfSome, List, [], ◌∷◌, ◌++◌, length, take, drop}
use Rattle.circular_buffer.specs.Buffer.{keep_last}
use Rattle.aeth_clocked.specs.declared.flit.Flit.{Flit}
use Rattle.aeth_header.specs.{declared.header.Header.Header, Layout.route_bits, Layout.queue_bits}
use Rattle.aeth_ni.specs.{Limits.waiting_words, Limits.max_count, declared.queue.Route.Route}

-- What one queue number holds: the words that wait to be sent, the words that were received and
-- not taken, the room for these, the words that the other end has room for, and the credits that
-- it owes that end.
pub record QueueState : Type 0 where
  pub route : Option Route
  pub waiting : List ℕ
  pub received : List ℕ
  pub room : ℕ
  pub counter : ℕ
  pub owed : ℕ
  pub halted : Bool

-- A route's ports and its remote queue fit their fields in a header.
pub record IsRoute (route : Route) : Type 0 where
  pub ports : route.ports < 2 ^ route_bits
  pub remote : route.remote < 2 ^ queue_bits

-- The size of a source queue, and that a route fits a header.
pub record IsQueue (size : ℕ) (route : Option Route) : Type 0 where
  pub of_size : size ≡ waiting_words
  pub fits : IfSome route IsRoute

-- No route, no word and no credit.
abbrev pub empty_queue : ℕ → QueueState
empty_queue room = record {
  route = None;
  waiting = [];
  received = [];
  room = room;
  counter = 0;
  owed = 0;
  halted = false;
}

-- A count of credits, which stops at the greatest.
abbrev pub capped : ℕ → ℕ
capped count = min count max_count

-- One word more waits.
abbrev pub offered : ℕ → QueueState → QueueState
offered word queue = record queue { waiting = queue.waiting ++ word ∷ [] }

-- The oldest received word is taken, and one credit more is owed; nothing where none is held.
abbrev pub word_taken : QueueState → QueueState
word_taken queue =
    if length queue.received == 0 then queue
    else record queue { received = drop 1 queue.received; owed = capped (queue.owed + 1) }

-- No injection until a route is set.
abbrev pub stopped : QueueState → QueueState
stopped queue = record queue { halted = true }

-- The route is taken away.
abbrev pub without_route : QueueState → QueueState
without_route queue = record queue { route = None }

-- The route is set, and with it the counter; a halt ends.
abbrev pub with_route : Route → ℕ → QueueState → QueueState
with_route route credits queue =
    record queue { route = Some route; counter = credits; halted = false }

-- Both queues, the counter and the owed credits are empty.
abbrev pub finished : QueueState → QueueState
finished queue = record queue { waiting = []; received = []; counter = 0; owed = 0 }

-- The words of a flit with this header.
abbrev pub words_in : Header → Flit → List ℕ
words_in header flit = take header.count (flit.first ∷ flit.second ∷ [])

-- The words and credits have come: of the words the newest stay that there is room for.
abbrev pub flit_landed : ℕ → List ℕ → QueueState → QueueState
flit_landed credits words queue = record queue {
  received = keep_last queue.room (queue.received ++ words);
  counter = capped (queue.counter + credits);
}
