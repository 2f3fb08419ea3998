-- When the words of a private server land, and when they are due.
-- Due times: after the latency-rate server (Stiliadis and Varma, 1998), for whole words.
use Rattle.std.proofs.Common.{ℕ, ◌+◌, ◌-◌, ◌*◌, ◌<◌, ◌≤◌, ◌≡◌, nat_le, slice_index, length}
use Rattle.aeth_slots.specs.Choice.{IsSuitable}
use Rattle.aeth_base.specs.Extremes.{least_below}
use Rattle.aeth_server.specs.FinishTimes.{finish_time}
use Rattle.aeth_server.specs.Shape.{channel_latency}
use Rattle.aeth_server.specs.PrivateServer.{PrivateServer, accepted, sent, landed, taken, returned}

-- The rate times the time by which the i-th word is due: its finish time at the channel's latency.
abbrev pub due_time : PrivateServer → ℕ → ℕ
due_time server i =
    let shape = server.shape in
    finish_time shape.size shape.rate (channel_latency shape) (accepted server) i

-- The i-th word lands in cycle t.
pub record LandsAt (server : PrivateServer) (i t : ℕ) : Type 0 where
  pub before : landed server t < i
  pub after : i ≤ landed server (t + 1)

-- The cycle in which the i-th word lands, of the first t cycles; else t.
abbrev pub landing_cycle : PrivateServer → ℕ → ℕ → ℕ
landing_cycle server t i = least_below (λ u. nat_le i (landed server (u + 1))) t

-- Up to cycle t the receiver has taken each word within its declared delay after the landing.
pub record KeepsDelay (server : PrivateServer) (t : ℕ) : Type 0 where
  pub takes : (u : ℕ) → u + server.shape.receiver_delay ≤ t
      → landed server (u + 1) ≤ taken server (u + server.shape.receiver_delay + 1)

-- The i-th word lands in a cycle p with rate * p at most this time.
pub record LandsBy (server : PrivateServer) (i time : ℕ) : Type 0 where
  pub cycle : ℕ
  pub lands : LandsAt server i cycle
  pub early : server.shape.rate * cycle ≤ time

-- The i-th word is due by cycle t, what is sent before the stop can land by then, and the receiver
-- keeps its delay up to then.
pub record IsDue (server : PrivateServer) (i t : ℕ) : Type 0 where
  pub least : 1 ≤ i
  pub most : i ≤ length (accepted server)
  pub due : due_time server i ≤ server.shape.rate * t
  pub in_time : t < server.stop + server.shape.path_delay
  pub keeps : KeepsDelay server t

-- The i-th word is offered in cycle a, with all words before it sent and a credit left, and the
-- slots are suitable for a latency of so many cycles, in which it can still land.
pub record WaitsAlone (server : PrivateServer) (need i a latency : ℕ) : Type 0 where
  pub least : 1 ≤ i
  pub most : i ≤ length (accepted server)
  pub offered : slice_index (accepted server) (i - 1) ≡ a
  pub alone : sent server a ≡ i - 1
  pub credit : sent server a < server.buffer + returned server (a + 1)
  pub suitable : IsSuitable need (latency + 1 - server.shape.path_delay)
      (record { size = server.shape.size; slots = server.shape.slots })
  pub in_time : a + latency < server.stop + server.shape.path_delay
