-- What holds of the counts of a private server.
use Rattle.std.proofs.Common.{ℕ, ◌+◌, ◌-◌, ◌&&◌, ◌<◌, ◌≤◌, ◌≡◌, nat_lt, min, if◌then◌else◌}
use Rattle.aeth_base.specs.Limits.{credits_per_flit, words_per_flit}
use Rattle.aeth_server.specs.SlotCycles.{is_slot}
use Rattle.aeth_server.specs.PrivateServer.{PrivateServer, arrived, sent, landed, taken, credited}
use Rattle.aeth_server.specs.PrivateServer.{returned, pull_at}

-- The counts at t + 1 from those at t.
pub record IsStep (server : PrivateServer) (t : ℕ) : Type 0 where
  pub sends : sent server (t + 1) ≡ sent server t
      + (if nat_lt t server.stop && is_slot server.shape.size server.shape.slots t
      then min words_per_flit
      (min (arrived server (t + 1) - sent server t)
      (server.buffer + returned server (t + 1) - sent server t))
      else 0)
  pub takes : taken server (t + 1) ≡ taken server t
      + min (pull_at server t) (landed server (t + 1) - taken server t)
  pub credits : credited server (t + 1) ≡ credited server t
      + (if nat_lt t server.stop && is_slot server.shape.size server.shape.back_slots t
      then min credits_per_flit (taken server t - credited server t)
      else 0)

-- No word has arrived, and nothing was done yet.
pub record IsIdle (server : PrivateServer) (t : ℕ) : Type 0 where
  pub arrived : arrived server t ≡ 0
  pub sent : sent server t ≡ 0
  pub landed : landed server t ≡ 0
  pub taken : taken server t ≡ 0
  pub credited : credited server t ≡ 0
  pub returned : returned server t ≡ 0

-- Words arrive, then are sent, land and are taken, and then their credits are sent and return.
-- Words are sent only for credits, so the receiver never holds more than the buffer.
pub record IsInOrder (server : PrivateServer) (t : ℕ) : Type 0 where
  pub sends : sent server t ≤ arrived server t
  pub lands : landed server t ≤ sent server t
  pub takes : taken server t ≤ landed server t
  pub credits : credited server t ≤ taken server t
  pub returns : returned server t ≤ credited server t
  pub allowed : sent server t ≤ server.buffer + returned server t
  pub room : landed server t ≤ server.buffer + taken server t

-- The receiver has room for all that lands in cycle t, before it takes any of it, and the credits
-- that are sent in cycle t are for words that were taken in earlier cycles.
pub record HasRoom (server : PrivateServer) (t : ℕ) : Type 0 where
  pub lands : landed server (t + 1) ≤ server.buffer + taken server t
  pub credits : credited server (t + 1) ≤ taken server t

-- What is sent in cycle t fits in a flit.
pub record FitsFlit (server : PrivateServer) (t : ℕ) : Type 0 where
  pub words : sent server (t + 1) ≤ sent server t + words_per_flit
  pub credits : credited server (t + 1) ≤ credited server t + credits_per_flit

-- No count falls from cycle s to cycle t.
pub record HasGrown (server : PrivateServer) (s t : ℕ) : Type 0 where
  pub arrived : arrived server s ≤ arrived server t
  pub sent : sent server s ≤ sent server t
  pub landed : landed server s ≤ landed server t
  pub taken : taken server s ≤ taken server t
  pub credited : credited server s ≤ credited server t
  pub returned : returned server s ≤ returned server t

-- Nothing is sent from the stop on, and nothing is taken from the finish on.
pub record IsClosed (server : PrivateServer) (t : ℕ) : Type 0 where
  pub sent : server.stop ≤ t → sent server t ≡ sent server server.stop
  pub credited : server.stop ≤ t → credited server t ≡ credited server server.stop
  pub taken : server.finish ≤ t → taken server t ≡ taken server server.finish

-- Two servers are given the same in the first t cycles.
pub record IsAlike (one other : PrivateServer) (t : ℕ) : Type 0 where
  pub shape : one.shape ≡ other.shape
  pub buffer : one.buffer ≡ other.buffer
  pub arrived : (u : ℕ) → u < t → arrived one (u + 1) ≡ arrived other (u + 1)
  pub pull : (u : ℕ) → u < t → pull_at one u ≡ pull_at other u
  pub may_send : (u : ℕ) → u < t → nat_lt u one.stop ≡ nat_lt u other.stop
