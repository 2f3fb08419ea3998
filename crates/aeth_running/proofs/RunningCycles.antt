-- A cycle of a network that runs: its components run behind it, and each channel has its session.
use Rattle.std.proofs.Common.{◌≡◌, ◌<◌, ◌∙◌, ◌+◌, ℕ, List, Some, length, slice_get, sym, ap, subst}
use Rattle.std.proofs.Common.{arith}
use Rattle.aeth_base.specs.Limits.{max_cycles}
use Rattle.aeth_clocked.specs.Wires.{flit_on}
use Rattle.aeth_components.specs.Changes.{switched}
use Rattle.aeth_components.specs.Components.{ComponentsState, ComponentsCycle, IsComponents}
use Rattle.aeth_components.specs.declared.event.Event.{Event}
use Rattle.aeth_components.specs.declared.channel_state.ChannelState.{ChannelState}
use Rattle.aeth_components.proofs.KeptLemmas.{channel_state-kept}
use Rattle.aeth_invariant.specs.{WellRouted.AreWellRouted, Carried.Exact, RoutedSessions.server_at}
use Rattle.aeth_accepted.specs.Inputs.{Inputs}
use Rattle.aeth_routed_sessions.specs.RoutedSessions.{routed_sessions_of}
use Rattle.aeth_refinement.proofs.Routed.{wirings-but_tables}
use Rattle.aeth_refinement.specs.{Events.AreEvents, Following.Follows, Places.ArePlaced}
use Rattle.aeth_refinement.specs.{Places.HavePlaces, Running.Prepares, Served.enqueued_after}
use Rattle.aeth_refinement.specs.{Logging.HasLogged, View.net_of}
use Rattle.aeth_running.proofs.KeptChannelStates.{components-kept, cycle-behind, flits-kept}
use Rattle.aeth_running.proofs.KeptChannelStates.{wirings-kept, kept_of, channel_states-kept}
use Rattle.aeth_running.proofs.KeptChannelStates.{length-kept, wires-kept}
use Rattle.aeth_running.proofs.NetworkLaws.{CycleLaws}
use Rattle.aeth_running.specs.Network.{state_behind}
use Rattle.aeth_running.specs.Running.{HasLast, IsLatest, HoldsBefore}
use Rattle.aeth_stimuli.specs.Sessions.{channel_of, first_of}

module _ (inputs : Inputs) (laws : CycleLaws) (ok : AreWellRouted (routed_sessions_of inputs))
    (t : ℕ)
    (short : t < max_cycles) (old ready : ComponentsState) (events : List Event)
    (running : HoldsBefore inputs t old)
    (prepares : Prepares (routed_sessions_of inputs) (channel_of inputs) t old ready)
    (sound : IsComponents ready)
    (are : AreEvents (routed_sessions_of inputs) (t + 1) events)
    (words-placed : ArePlaced (routed_sessions_of inputs) (first_of inputs) (length old.landings))
    (goes-first : (c : ℕ) → c < (routed_sessions_of inputs).count
    → (server_at (routed_sessions_of inputs) c).go
    < (server_at (routed_sessions_of inputs) c).finish)
    (firsts : (c : ℕ) → IsLatest inputs (t + 1) c → (channel_state : ChannelState)
    → slice_get ready.channel_states (channel_of inputs c) ≡ Some channel_state
    → channel_state.first ≡ first_of inputs c)
    (places : HavePlaces (routed_sessions_of inputs) (channel_of inputs) (first_of inputs) t
    ready.channel_states) where
  abbrev new : ComponentsState
  new = state_behind events t ready

  abbrev more : ℕ → ℕ
  more = enqueued_after (routed_sessions_of inputs)
      (net_of running.enqueued (switched events ready.parts) ready.wires) t

  cycle : ComponentsCycle events t ready (state_behind events t ready)
  cycle = cycle-behind events t ready

  before : Follows (routed_sessions_of inputs) (channel_of inputs) t t running.enqueued ready
  before = laws.prepared (routed_sessions_of inputs) ok (channel_of inputs) t running.enqueued old
      ready
      running.runs prepares

  behind : Follows (routed_sessions_of inputs) (channel_of inputs) t (t + 1)
      (enqueued_after (routed_sessions_of inputs)
      (net_of running.enqueued (switched events ready.parts) ready.wires) t)
      (state_behind events t ready)
  behind = laws.follows (routed_sessions_of inputs) ok (channel_of inputs) events t running.enqueued
      ready new
      before are cycle

  exact : Exact (routed_sessions_of inputs) t (flit_on (state_behind events t ready).wires)
  exact = laws.exact (routed_sessions_of inputs) ok (channel_of inputs) events t running.enqueued
      ready new
      before are cycle

  -- A session that went is logged.
  tells : (c : ℕ) → IsLatest inputs (t + 1) c
      → HasLogged (routed_sessions_of inputs) (channel_of inputs) (t + 1) c
      (state_behind events t ready)
  tells c latest =
      let gone = latest.gone in
      let first = goes-first c latest.known in
      laws.logged (routed_sessions_of inputs) (channel_of inputs) events t more old ready new
      prepares cycle behind
      c latest.known (omega (arith, gone)) first
      (λ over starts.
      let goes = starts.goes in
      let later = latest.last starts.session starts.known (omega (arith, goes)) starts.place in
      omega (arith, over, goes, later, first))
      (λ went. running.logged c (record {
        known = latest.known;
        gone = went;
        last = λ d known soon same. latest.last d known (omega (arith, soon)) same;
      }))

  -- So it is the last of its channel.
  lasts : (c : ℕ) → IsLatest inputs (t + 1) c → HasLast inputs (t + 1) c (state_behind events t ready)
  lasts c latest =
      let logged = tells c latest in
      let (before, there, same) =
      channel_state-kept kept_of (state_behind events t ready).channel_states
      ready.channel_states
      (channel_states-kept events t ready) (channel_of inputs c) logged.channel_state logged.at in
      record {
        channel_state = logged.channel_state;
        at = logged.at;
        is = record {
          first_is = ap (λ (one : ChannelState). one.first) same ∙ firsts c latest before there;
          landed_is = logged.landed_is;
          taken_is = logged.taken_is;
        };
      }

  pub running-on : HoldsBefore inputs (t + 1) (state_behind events t ready)
  running-on = record {
    enqueued = more;
    runs = laws.keep_running (routed_sessions_of inputs) ok (channel_of inputs) events t
        running.enqueued old
        ready new running.runs prepares are cycle;
    sound = components-kept events t ready sound;
    wirings = wirings-kept events t ready
        ∙ wirings-but_tables ready.parts old.parts prepares.parts ∙ running.wirings;
    words = prepares.words ∙ running.words;
    channel_states = length-kept events t ready ∙ prepares.count ∙ running.channel_states;
    links = flits-kept events t ready ∙ ap length prepares.flits ∙ running.links;
    flits = laws.counted (routed_sessions_of inputs) ok events t ready new sound cycle short exact
        (wires-kept events t ready)
        (λ l count at. running.flits l count
        (ap (λ (flits : List ℕ). slice_get flits l) (sym prepares.flits) ∙ at));
    notes = laws.noted (routed_sessions_of inputs) ok (channel_of inputs) events t running.enqueued
        ready new
        before are cycle (first_of inputs) places
        (subst (λ (landings : List ℕ). ArePlaced (routed_sessions_of inputs) (first_of inputs)
        (length landings))
        (sym prepares.landings) words-placed)
        (λ c i u known session_start soon from upto.
        ap (λ (landings : List ℕ). slice_get landings (first_of inputs c + i)) prepares.landings
        ∙ running.notes c i u known session_start soon from upto);
    logged = tells;
    last = lasts;
  }
