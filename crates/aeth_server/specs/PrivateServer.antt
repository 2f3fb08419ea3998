-- The private server of a channel: the channel by itself, from cycle to cycle, with no other
-- channel in the network. All its counts are functions of what it is given. A count speaks of the
-- first t cycles, 0 to t - 1: what is sent by the end of cycle t is the count at t + 1. All counts
-- at 0 are 0.
--
--   PrivateServer    what it is given
--   Counts, Cycle, counts_after    what it has done, what a cycle brings, and what a cycle does
--   accepted, arrived, pull_at, cycle_at    what the session brings to each cycle
--   counts_ago, history, counts    the counts after each cycle, newest first, and after the last
--   sent, landed, taken, credited, returned    each count by itself
-- Credits: after Æthereal (2005). The private server: this project's own.
use Rattle.std.proofs.Common.{ℕ, ◌+◌, ◌-◌, ◌&&◌, nat_lt, nat_le, min, Bool, if◌then◌else◌, List, []}
use Rattle.std.proofs.Common.{◌∷◌, slice_index_or, filter, zero, suc}
use Rattle.aeth_base.specs.Limits.{credits_per_flit, words_per_flit}
use Rattle.aeth_server.specs.{SlotCycles.is_slot, FinishTimes.arrivals_before, Shape.Shape}

-- What a private server is given: the shape and the buffer; the cycles at which its session goes,
-- accepts no more words, stops sending and finishes; the cycles in which words are offered on the
-- channel, one for each word; and how many words the receiver takes at most in each cycle.
pub record PrivateServer : Type 0 where
  pub shape : Shape
  pub buffer : ℕ
  pub go : ℕ
  pub until : ℕ
  pub stop : ℕ
  pub finish : ℕ
  pub offers : List ℕ
  pub pull : ℕ → ℕ

-- Words sent, words taken by the receiver, and credits sent back for words that were taken.
pub record Counts : Type 0 where
  pub sent : ℕ
  pub taken : ℕ
  pub credited : ℕ

-- What one cycle brings: its number, how many words have arrived by its end, how many words the
-- receiver takes at most, and whether flits may be sent.
pub record Cycle : Type 0 where
  pub time : ℕ
  pub arrived : ℕ
  pub pull : ℕ
  pub may_send : Bool

-- The counts after a cycle, from those before it and from the words that have landed and the
-- credits that have returned by its end. In a slot of the channel words go as long as some wait and
-- there is a credit for each; in a slot of the opposite channel credits go for words taken in
-- earlier cycles.
abbrev pub counts_after : Shape → ℕ → Cycle → Counts → ℕ → ℕ → Counts
counts_after shape buffer cycle before landed returned =
    let waiting = min (cycle.arrived - before.sent) (buffer + returned - before.sent) in
    let sends = cycle.may_send && is_slot shape.size shape.slots cycle.time in
    let credits = cycle.may_send && is_slot shape.size shape.back_slots cycle.time in
    record {
      sent = before.sent + (if sends then min words_per_flit waiting else 0);
      taken = before.taken + min cycle.pull (landed - before.taken);
      credited = before.credited
          + (if credits then min credits_per_flit (before.taken - before.credited) else 0);
    }

-- The cycles of the words that the session accepts.
abbrev pub accepted : PrivateServer → List ℕ
accepted server = filter (λ a. nat_le server.go a && nat_lt a server.until) server.offers

-- The words that have arrived.
abbrev pub arrived : PrivateServer → ℕ → ℕ
arrived server t = arrivals_before (accepted server) t

-- How many words the receiver may take in cycle t.
abbrev pub pull_at : PrivateServer → ℕ → ℕ
pull_at server t = if nat_lt t server.finish then server.pull t else 0

-- What cycle t brings.
abbrev pub cycle_at : PrivateServer → ℕ → Cycle
cycle_at server t = record {
  time = t;
  arrived = arrived server (suc t);
  pull = pull_at server t;
  may_send = nat_lt t server.stop;
}

-- The counts of j cycles ago, in a history of the counts after each cycle, newest first.
abbrev pub counts_ago : List Counts → ℕ → Counts
counts_ago history j = slice_index_or history j (record { sent = 0; taken = 0; credited = 0 })

-- The counts after each of the first t cycles, newest first. What lands or returns by the end of a
-- cycle was sent a path delay before.
unfoldable pub history : PrivateServer → ℕ → List Counts
history server zero = []
history server (suc t) =
    let before = history server t in
    let landed = (counts_ago before (server.shape.path_delay - 1)).sent in
    let returned = (counts_ago before (server.shape.back_path_delay - 1)).credited in
    let last = counts_ago before 0 in
    counts_after server.shape server.buffer (cycle_at server t) last landed returned ∷ before

-- The counts after the first t cycles.
unfoldable pub counts : PrivateServer → ℕ → Counts
counts server t = counts_ago (history server t) 0

-- The words sent in the first t cycles.
abbrev pub sent : PrivateServer → ℕ → ℕ
sent server t = (counts server t).sent

-- The words landed: those sent a path delay before.
abbrev pub landed : PrivateServer → ℕ → ℕ
landed server t = sent server (t - server.shape.path_delay)

-- The words taken by the receiver.
abbrev pub taken : PrivateServer → ℕ → ℕ
taken server t = (counts server t).taken

-- The credits sent back.
abbrev pub credited : PrivateServer → ℕ → ℕ
credited server t = (counts server t).credited

-- The credits returned: those sent back a path delay of the opposite channel before.
abbrev pub returned : PrivateServer → ℕ → ℕ
returned server t = credited server (t - server.shape.back_path_delay)
