-- A run of a chain: what each core offers, and which words land on the last channel when.
--
--   server_on, passed_on      the private server of a leg, and what the core at its end offers
--   LegRun, runs_along, servers_along      the legs of a chain in a run, and their private servers
--   first_offers      what is offered on the first channel
--   chain_time, landing_on, landings_along      when words are due, and the landings on the last channel
--   ChainData, chain_log      the log
-- This project's own.
use Rattle.std.proofs.Common.{ℕ, ◌+◌, ◌-◌, List, [], ◌∷◌, filter, length, map, nat_lt, slice_index}
use Rattle.std.specs.List.{range_with_len}
use Rattle.aeth_base.specs.Limits.{max_path_delay}
use Rattle.aeth_server.specs.{FinishTimes.due_cycle, FinishTimes.finish_time, Landing.landing_cycle}
use Rattle.aeth_server.specs.{PrivateServer.PrivateServer, PrivateServer.landed, Shape.buffer_of}
use Rattle.aeth_server.specs.{WordCycles.taking_cycle}
use Rattle.aeth_trace.specs.{Receivers.pull_at, Words.words_on, declared.receivers.PullRow.PullRow}
use Rattle.aeth_trace.specs.{declared.words.WordRow.WordRow}
use Rattle.aeth_report.specs.declared.log.Landing.{Landing}
use Rattle.aeth_chain.specs.Chain.{Leg, bound_of, chain_rate, size_of}
use Rattle.aeth_chain.specs.declared.passing.Offer.{Offer}

-- The cycles of offers, and the values of their words.
abbrev pub cycles_of : List Offer → List ℕ
cycles_of offers = map (λ offer. offer.cycle) offers

abbrev pub values_of : List Offer → List ℕ
values_of offers = map (λ offer. offer.value) offers

-- A leg in a run: what is offered on it, and its private server.
pub record LegRun : Type 0 where
  pub offers : List Offer
  pub server : PrivateServer

module _ (pulls : List PullRow) (cycles : ℕ) where
  -- The private server of a leg, in one session from cycle 0 on that no switch closes: it stops with the
  -- run.
  abbrev pub server_on : Leg → List Offer → PrivateServer
  server_on leg offers = record {
    shape = leg.shape;
    buffer = buffer_of leg.shape;
    go = 0;
    until = cycles;
    stop = cycles;
    finish = cycles + max_path_delay;
    offers = cycles_of offers;
    pull = pull_at pulls leg.channel;
  }

  -- What the core at the end of a leg offers of the word behind the first k: its value, its work after it
  -- was taken.
  abbrev pub offer_behind : Leg → List Offer → ℕ → Offer
  offer_behind leg offers k = record {
    cycle = taking_cycle (server_on leg offers) cycles (k + 1) + leg.work;
    value = slice_index (values_of offers) k;
  }

  -- What it offers within the run. A word that isn't taken in it has the number of its cycles for its
  -- taking cycle, so it falls out.
  abbrev pub passed_on : Leg → List Offer → List Offer
  passed_on leg offers =
      filter (λ offer. nat_lt offer.cycle cycles)
      (map (offer_behind leg offers) (range_with_len 0 (length offers)))

  -- The legs in a run, with these offers on the first of them.
  abbrev pub runs_along : List Offer → List Leg → List LegRun
  runs_along offers [] = []
  runs_along offers (leg ∷ legs) =
      record { offers = offers; server = server_on leg offers }
      ∷ runs_along (passed_on leg offers) legs

  -- Their private servers.
  abbrev pub servers_along : List Offer → List Leg → List PrivateServer
  servers_along offers legs = map (λ run. run.server) (runs_along offers legs)

-- A row of words as an offer.
abbrev pub offer_of : WordRow → Offer
offer_of row = record { cycle = row.cycle; value = row.value }

-- What is offered on the first channel of a chain within the run.
abbrev pub first_offers : List WordRow → ℕ → List Leg → List Offer
first_offers words cycles [] = []
first_offers words cycles (leg ∷ legs) =
    map offer_of (filter (λ row. nat_lt row.cycle cycles) (words_on words leg.channel))

-- The chain's rate times the time by which its i-th word is due.
abbrev pub chain_time : List Leg → List Offer → ℕ → ℕ
chain_time legs first i =
    let bound = bound_of legs in
    finish_time (size_of legs) bound.rate bound.latency (cycles_of first) i

-- The landing of the word behind the first k on a leg, where these were offered on the first: its offer
-- there, when it landed here, when the chain owes it, and its value.
abbrev pub landing_on : ℕ → List Leg → List Offer → LegRun → ℕ → Landing
landing_on cycles legs first run k = record {
  offered = slice_index (cycles_of first) k;
  landed = landing_cycle run.server cycles (k + 1);
  due = due_cycle (chain_rate legs) (chain_time legs first (k + 1));
  value = slice_index (values_of run.offers) k;
}

-- The landings on the last of some legs in a run.
abbrev pub landings_along : ℕ → List Leg → List Offer → List LegRun → List Landing
landings_along cycles legs first [] = []
landings_along cycles legs first (run ∷ []) =
    map (landing_on cycles legs first run) (range_with_len 0 (landed run.server cycles))
landings_along cycles legs first (run ∷ next ∷ runs) =
    landings_along cycles legs first (next ∷ runs)

-- What is told of a run of a chain: what is offered on each channel within the run, the landings on the
-- last, and how many words of the first didn't land there.
pub record ChainData : Type 0 where
  pub offers : List (List Offer)
  pub landings : List Landing
  pub left : ℕ

-- The log of a run of a chain.
abbrev pub chain_log : List Leg → List WordRow → List PullRow → ℕ → ChainData
chain_log legs words pulls cycles =
    let first = first_offers words cycles legs in
    let runs = runs_along pulls cycles first legs in
    let landings = landings_along cycles legs first runs in
    record {
      offers = map (λ run. run.offers) runs;
      landings = landings;
      left = length first - length landings;
    }
