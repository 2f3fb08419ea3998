-- What one channel is granted and asks for, and what follows: its latencies, the round trip of a
-- word and its credit, and the buffer.
-- End-to-end flow control: after Æthereal (2005). Rate and buffer: this project's own.
use Rattle.std.proofs.Common.{ℕ, ◌+◌, ◌*◌, ◌≤◌, List, length}
use Rattle.std.specs.Int.{div_ceil}
use Rattle.aeth_base.specs.Limits.{credits_per_flit, words_per_flit}
use Rattle.aeth_slots.specs.SlotSet.{Ascends}
use Rattle.aeth_server.specs.Latency.{latency_of}

-- The shape of a channel: the table size; its slots, and the delay of its path in cycles; its rate
-- in words per table; how many cycles after its landing a word is taken at the latest, as the
-- receiver declares; and the slots and the path delay of the opposite channel, which carries the
-- credits.
pub record Shape : Type 0 where
  pub size : ℕ
  pub slots : List ℕ
  pub path_delay : ℕ
  pub rate : ℕ
  pub receiver_delay : ℕ
  pub back_slots : List ℕ
  pub back_path_delay : ℕ

-- No path is without delay.
pub record HasPaths (shape : Shape) : Type 0 where
  pub path : 1 ≤ shape.path_delay
  pub back_path : 1 ≤ shape.back_path_delay

-- The slots can carry the rate, and the opposite ones the credits for it.
pub record IsGranted (shape : Shape) : Type 0 where
  pub paths : HasPaths shape
  pub least_rate : 1 ≤ shape.rate
  pub ascends : Ascends 0 shape.size shape.slots
  pub capacity : shape.rate ≤ words_per_flit * length shape.slots
  pub back_ascends : Ascends 0 shape.size shape.back_slots
  pub back_capacity : shape.rate ≤ credits_per_flit * length shape.back_slots

-- The latency of the slots for words.
abbrev pub payload_latency : Shape → ℕ
payload_latency shape = latency_of shape.size shape.slots words_per_flit shape.rate

-- The latency of the opposite slots for credits.
abbrev pub credit_latency : Shape → ℕ
credit_latency shape = latency_of shape.size shape.back_slots credits_per_flit shape.rate

-- The latency of the channel: how many cycles later, at the most, a word lands than a steady server
-- of its rate, with no path, would be done with it.
abbrev pub channel_latency : Shape → ℕ
channel_latency shape = payload_latency shape + shape.path_delay

-- The round trip: from a word's offer until its credit is back. A credit goes in a later cycle than
-- that in which its word is taken.
abbrev pub round_trip : Shape → ℕ
round_trip shape =
    channel_latency shape + shape.receiver_delay + 1 + credit_latency shape + shape.back_path_delay

-- The buffer: the words of a round trip at this rate, and two more.
abbrev pub buffer_of : Shape → ℕ
buffer_of shape = div_ceil (shape.rate * round_trip shape) shape.size + 2
