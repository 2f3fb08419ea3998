-- Networks as they are seen, and what holds of them behind a cycle.
use Rattle.std.proofs.Common.{◌≡◌, ◌≤◌, ◌<◌, ◌+◌, ℕ, arith, subst, sym}
use Rattle.aeth_running.specs.Network.{NetworkState, stepped}
use Rattle.aeth_network.specs.Cursors.{AreInOrder, routing_with, stimuli_with}
use Rattle.aeth_network.specs.Networks.{IsNetwork, network_of}
use Rattle.aeth_network.specs.Runs.{HasInputs}
use Rattle.aeth_network.specs.declared.{network.RoutedNetwork.TheInside.Inside, state.State.State}
use Rattle.aeth_network.proofs.{Playing.still-of, Skipping.IsNetwork-stepped}

-- A network as it is seen, and with another state behind its next cycle.
abbrev pub seen : Inside → NetworkState
seen all =
    network_of (stimuli_with all.given) (routing_with all.given) all.state all.log all.time

abbrev pub seen_next : Inside → State → NetworkState
seen_next all state =
    network_of (stimuli_with all.given) (routing_with all.given) state all.log (all.time + 1)

-- A network is another one, and all that holds of networks holds of it.
pub record Becomes (capacity : ℕ) (now next : NetworkState) : Type 0 where
  pub is : now ≡ next
  pub network : IsNetwork capacity now
  pub has : HasInputs now

-- What is given comes in order.
pub in-order : (capacity : ℕ) (all : NetworkState) → IsNetwork capacity all
    → AreInOrder all.stimuli all.routing
in-order capacity all is = record {
  event_cycles = is.stimuli.event_cycles;
  events = is.stimuli.event_order;
  session_starts = is.stimuli.session_start_order;
  offers = is.stimuli.offer_order;
  takes = is.stimuli.take_order;
  enterings = is.enterings;
}

-- More room is enough too.
pub IsNetwork-more : (capacity more : ℕ) (all : NetworkState) → capacity ≤ more
    → IsNetwork capacity all → IsNetwork more all
IsNetwork-more capacity more all le is =
    let enough = is.enough in
    record {
      stimuli = is.stimuli;
      enterings = is.enterings;
      components = is.components;
      some_parts = is.some_parts;
      untils = is.untils;
      outside = is.outside;
      channels = is.channels;
      flits = is.flits;
      fit = is.fit;
      counts = is.counts;
      fresh = is.fresh;
      replaced = is.replaced;
      gone = is.gone;
      enough = omega arith;
      few_session_starts = is.few_session_starts;
      few_channels = is.few_channels;
      few_words = is.few_words;
      few_parts = is.few_parts;
      cycles = is.cycles;
    }

-- All that holds of networks holds behind one more cycle.
pub becomes-stepped : (few capacity : ℕ) (old now : NetworkState) → IsNetwork few old
    → few ≤ capacity → HasInputs old → old.time < old.log.cycles → now ≡ stepped old
    → Becomes capacity now (stepped old)
becomes-stepped few capacity old now network more has early is = record {
  is = is;
  network = subst (IsNetwork capacity) (sym is)
      (IsNetwork-more few capacity (stepped old) more (IsNetwork-stepped few old network));
  has = record { inputs = has.inputs; of = still-of has.inputs old now has.of early is };
}
