-- A lane: a leg of a chain in a run, as the code is given it; and the cycles of its words.
--
--   leg_in, server_in, AreOffers, IsLane      a lane, and what is asked of it
--   sending_cycles, taking_cycles, crediting_cycles, after, IsReceiving      the cycles of its words
--   run_in, legs_in, IsRunning      a lane in a run, and all legs of a chain
--
-- This project's own.
use Rattle.std.proofs.Common.{ℕ, ◌+◌, ◌-◌, ◌*◌, ◌<◌, ◌≤◌, ◌≡◌, All, List, if◌then◌else◌, length}
use Rattle.std.proofs.Common.{map, nat_le, slice_index}
use Rattle.std.specs.List.{range_with_len, Sorted.IsNonDecreasing}
use Rattle.aeth_base.specs.Limits.{max_cycles, max_slots, words_per_flit}
use Rattle.aeth_server.specs.ChannelShape.{IsShapeInRange}
use Rattle.aeth_server.specs.PrivateServer.{PrivateServer, taken}
use Rattle.aeth_server.specs.WordCycles.{crediting_cycle, sending_cycle, taking_cycle}
use Rattle.aeth_trace.specs.Limits.{max_rows}
use Rattle.aeth_chain.specs.Chain.{IsChain, Leg, bound_of, leg_of, legs_of}
use Rattle.aeth_chain.specs.ChainRun.{LegRun, cycles_of, server_on}
use Rattle.aeth_chain.specs.Limits.{max_chain_items, max_leg_latency, max_work}
use Rattle.aeth_chain.specs.declared.{lane.Lane.Lane, passing.Offer.Offer, run.Running.Running}

-- The leg of a lane, and its private server.
abbrev pub leg_in : Lane → Leg
leg_in lane = leg_of lane.item lane.shape

abbrev pub server_in : Lane → PrivateServer
server_in lane = server_on lane.receivers.now lane.cycles (leg_in lane) lane.offers.now

-- Offers of a run: within it, in the order of their cycles, and not too many.
pub record AreOffers (cycles : ℕ) (offers : List Offer) : Type 0 where
  pub within : All (λ offer. offer.cycle < cycles) offers
  pub order : IsNonDecreasing (cycles_of offers)
  pub few : length offers ≤ max_rows

-- What is asked of a lane.
pub record IsLane (lane : Lane) : Type 0 where
  pub shape : IsShapeInRange lane.shape
  pub work : lane.item.work ≤ max_work
  pub offers : AreOffers lane.cycles lane.offers.now
  pub least : 1 ≤ lane.cycles
  pub most : lane.cycles ≤ max_cycles

-- The cycles in which the first so many words are sent, taken and credited.
abbrev pub sending_cycles : PrivateServer → ℕ → ℕ → List ℕ
sending_cycles server cycles count =
    map (λ k. sending_cycle server cycles (k + 1)) (range_with_len 0 count)

abbrev pub taking_cycles : PrivateServer → ℕ → ℕ → List ℕ
taking_cycles server cycles count =
    map (λ k. taking_cycle server cycles (k + 1)) (range_with_len 0 count)

abbrev pub crediting_cycles : PrivateServer → ℕ → ℕ → List ℕ
crediting_cycles server cycles count =
    map (λ k. crediting_cycle server cycles (k + 1)) (range_with_len 0 count)

-- So much after the cycle so many places before, 0 where there is none.
abbrev pub after : List ℕ → ℕ → ℕ → ℕ → ℕ
after cycles place back delay =
    if nat_le back place then slice_index cycles (place - back) + delay else 0

-- Where a receiver stands behind the first so many words: the last of them is taken in this cycle,
-- before which so many were taken.
pub record IsReceiving (server : PrivateServer) (cycles count cycle had : ℕ) : Type 0 where
  pub within : cycle ≤ cycles
  pub last : taking_cycle server cycles count ≡ cycle
  pub before : cycle < cycles → taken server cycle ≡ had
  pub low : had ≤ count

-- A lane as a leg in a run.
abbrev pub run_in : Lane → LegRun
run_in lane = record { offers = lane.offers.now; server = server_in lane }

-- The legs of a chain in a run, as the code is given it.
abbrev pub legs_in : Running → List Leg
legs_in running = legs_of running.items.now running.shapes.now

-- What is asked of it: the bound is that of its legs, and what is offered on the first is of the run.
pub record IsRunning (running : Running) : Type 0 where
  pub chain : IsChain running.items.now running.shapes.now
  pub bound : running.bound ≡ bound_of (legs_in running)
  pub least_rate : 1 ≤ running.bound.rate
  pub most_rate : running.bound.rate ≤ words_per_flit * max_slots
  pub latency : running.bound.latency ≤ max_leg_latency * max_chain_items
  pub first : AreOffers running.cycles running.first.now
  pub least : 1 ≤ running.cycles
  pub cycles : running.cycles ≤ max_cycles
