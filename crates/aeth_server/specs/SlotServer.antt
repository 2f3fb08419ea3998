-- A server that sends in the slots of a table, and what it is to keep.
-- A count speaks of the first t cycles, 0 to t - 1: what is sent by the end of cycle t is the count
-- at t + 1. Rates are in words per table.
--
--   served, ServesInFull    what a server sends, and the stretch in which it serves every slot in full
--   SlotServer, KeepsRate    a server, and what it needs to keep its rate
--   sent_by, own_latency, own_finish, IsSentBy    what it sends by a cycle, and when its words are done
--   arrival_after, steady_from, IsBusyPeriod    a busy period, and from when on it has the rate
--   SendsInTurn, ServesAtRate    what a busy period is served
-- Busy period: after the latency-rate server (Stiliadis and Varma, 1998), for whole words.
use Rattle.std.proofs.Common.{ℕ, ◌+◌, ◌-◌, ◌*◌, ◌/◌, ◌<◌, ◌≤◌, ◌≡◌, min, if◌then◌else◌, List}
use Rattle.std.proofs.Common.{length, slice_index, zero, suc}
use Rattle.std.specs.List.Sorted.{IsNonDecreasing}
use Rattle.aeth_slots.specs.SlotSet.{Ascends}
use Rattle.aeth_server.specs.{SlotCycles.is_slot, SlotCycles.slots_within, Latency.latency_of}
use Rattle.aeth_server.specs.{FinishTimes.arrivals_before, FinishTimes.finish_time}

-- What a server sends in the first t cycles, where the count tells how many words arrive in them:
-- in each slot as many as wait, and cap at most. A word can be sent in the cycle of its arrival.
abbrev pub served : ℕ → List ℕ → ℕ → (ℕ → ℕ) → ℕ → ℕ
served size slots cap arrived zero = 0
served size slots cap arrived (suc t) =
    let before = served size slots cap arrived t in
    before + (if is_slot size slots t then min cap (arrived (suc t) - before) else 0)

-- From some cycle up to t each slot was served in full, and nothing waited before it.
pub record ServesInFull (size : ℕ) (slots : List ℕ) (cap : ℕ) (arrived : ℕ → ℕ) (t : ℕ)
    : Type 0 where
  pub start : ℕ
  pub cycles : ℕ
  pub ends : start + cycles ≡ t
  pub in_full : arrived start + cap * slots_within size slots start cycles
      ≤ served size slots cap arrived t

-- A slot server: the table size and its slots, how many words a slot carries at most, the rate that
-- it keeps, and the cycles in which its words arrive.
pub record SlotServer : Type 0 where
  pub size : ℕ
  pub slots : List ℕ
  pub cap : ℕ
  pub rate : ℕ
  pub arrivals : List ℕ

-- The slots can keep the rate, and the words arrive in their order.
pub record KeepsRate (server : SlotServer) : Type 0 where
  pub ascends : Ascends 0 server.size server.slots
  pub least_cap : 1 ≤ server.cap
  pub least_rate : 1 ≤ server.rate
  pub capacity : server.rate ≤ server.cap * length server.slots
  pub order : IsNonDecreasing server.arrivals

-- The words that it has sent in the first t cycles.
abbrev pub sent_by : SlotServer → ℕ → ℕ
sent_by server t = served server.size server.slots server.cap (arrivals_before server.arrivals) t

-- The latency of its slots at its rate.
abbrev pub own_latency : SlotServer → ℕ
own_latency server = latency_of server.size server.slots server.cap server.rate

-- The finish time of its i-th word with this latency.
abbrev pub own_finish : SlotServer → ℕ → ℕ
own_finish server i = finish_time server.size server.rate (own_latency server) server.arrivals i

-- The i-th word is sent in a cycle p with rate * p at most this time.
pub record IsSentBy (server : SlotServer) (i time : ℕ) : Type 0 where
  pub cycle : ℕ
  pub before : sent_by server cycle < i
  pub after : i ≤ sent_by server (cycle + 1)
  pub early : server.rate * cycle ≤ time

-- The cycle in which the next word after the first i arrives.
abbrev pub arrival_after : SlotServer → ℕ → ℕ
arrival_after server i = slice_index server.arrivals i

-- The cycle from which on a busy period after the first i words is served at the rate.
abbrev pub steady_from : SlotServer → ℕ → ℕ
steady_from server i = arrival_after server i + own_latency server

-- The n words after the first i are a busy period, which begins when the first of them arrives: the
-- words before it are done by then, but for the latency, and these arrive at the rate or faster.
pub record IsBusyPeriod (server : SlotServer) (i n : ℕ) : Type 0 where
  pub some : 1 ≤ n
  pub within : i + n ≤ length server.arrivals
  pub begins : own_finish server i ≤ server.rate * steady_from server i
  pub keeps_up : (k : ℕ) → k < n
      → server.rate * (arrival_after server (i + k) - arrival_after server i) ≤ k * server.size

-- Its k-th word is sent in a cycle p with rate * (p - begin) at most rate * latency + k * size.
abbrev pub SendsInTurn : SlotServer → ℕ → ℕ → Type 0
SendsInTurn server i k =
    IsSentBy server (i + k) (server.rate * steady_from server i + k * server.size)

-- By the end of cycle t it has the service of a latency-rate server: rate / size words a cycle from
-- its steady cycle on, in whole words, or all its words where they are fewer.
abbrev pub ServesAtRate : SlotServer → ℕ → ℕ → ℕ → Type 0
ServesAtRate server i n t =
    steady_from server i ≤ t
    → i + min n (server.rate * (t - steady_from server i) / server.size) ≤ sent_by server (t + 1)
