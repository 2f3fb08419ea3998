-- What holds of the network of accepted inputs before its first cycle.
use Rattle.std.proofs.Common.{◌≡◌, ◌≤◌, ◌<◌, ◌*◌, ◌∙◌, ◌^◌, ℕ, List, [], ◌∷◌, ap, arith, drop}
use Rattle.std.proofs.Common.{filter, length, map, nat_lt, refl, subst, sym, flat_map}
use Rattle.std.proofs.Common.{length-append, length-drop}
use Rattle.std.proofs.lemmas.List.{length-map, length-replicate, Elements.All-nil}
use Rattle.std.proofs.lemmas.List.{Elements.All-weaker, FromFn.length-map-range_with_len}
use Rattle.std.proofs.lemmas.List.{Sums.count_by-le-length, Sums.length-filter}
use Rattle.std.specs.List.{All, range_with_len}
use Rattle.aeth_app.specs.Limits.{max_connections}
use Rattle.aeth_base.specs.declared.ids.Channel.{Channel}
use Rattle.aeth_base.specs.declared.ids.Side.TheVariants.{Back, Fwd}
use Rattle.aeth_trace.specs.{Limits.max_rows, Words.words_on, declared.words.WordRow.WordRow}
use Rattle.aeth_report.specs.{Channels.channels_of, Log.LogData}
use Rattle.aeth_components.specs.{Components.wirings_of, Events.IsDoable, Wirings.Wiring}
use Rattle.aeth_components.specs.{Wirings.wiring_of, Making.new_parts, ChannelStates.IsChannelState}
use Rattle.aeth_components.specs.{declared.making.RouterKind.RouterKind}
use Rattle.aeth_components.proofs.KindLemmas.{wirings-kind}
use Rattle.aeth_accepted.specs.Inputs.{AreAccepted, Inputs}
use Rattle.aeth_schedule.specs.{SessionStarts.session_starts_of, Rooms.rooms_of}
use Rattle.aeth_schedule.specs.{Switching.loaded_of, Values.values_of, Values.values_on}
use Rattle.aeth_schedule.specs.{Values.values_with}
use Rattle.aeth_schedule.specs.{declared.session_start.SessionStart.SessionStart}
use Rattle.aeth_schedule.proofs.Places.{on-few}
use Rattle.aeth_running.specs.FirstLog.{first_channel, first_log}
use Rattle.aeth_running.specs.Network.{first_network, routed_components}
use Rattle.aeth_running.specs.Routing.{ByHeaders, Entering, IsRoutingFor, Routing, later_rows}
use Rattle.aeth_running.proofs.PlayedTables.{later-order}
use Rattle.aeth_stimuli.specs.Loaded.{loaded_components, no_channel_state}
use Rattle.aeth_stimuli.specs.Stimuli.{AreStimuli, Offer, Stimuli, Take, offer_of, stimuli_of}
use Rattle.aeth_network.specs.{Behind.passed, Cursors.AreCursors, First.IsFirstState}
use Rattle.aeth_network.specs.{Networks.IsNetwork, Networks.network_of}
use Rattle.aeth_network.specs.{declared.given.Cursors.Cursors, declared.state.State.State}
use Rattle.aeth_network.specs.{Records.IsFresh}
use Rattle.aeth_network.proofs.{FirstComponents.AreFit-none, FirstComponents.HaveCounts-none}
use Rattle.aeth_network.proofs.{FirstComponents.IsComponents-loaded, FirstComponents.few-parts}
use Rattle.aeth_network.proofs.{FirstComponents.loaded-wirings, FirstComponents.loaded-size}
use Rattle.aeth_network.proofs.{FewSessionStarts.session_starts-few, FewSessionStarts.over-two}
use Rattle.aeth_network.proofs.{FirstSessionStarts.fresh-session_starts, Passed.passed-first}
use Rattle.aeth_network.proofs.{QuietPlaces.quiet-first, WindowLemmas.over-none}

-- The channels of connections have no more words than twice so often the most rows.
with-few : (words : List WordRow) (c : ℕ) → length (values_with words c) ≤ 2 * length words
with-few words c =
    let fwd : Channel = record { conn = record { 0 = c }; side = Fwd } in
    let back : Channel = record { conn = record { 0 = c }; side = Back } in
    let one = on-few words fwd in
    let other = on-few words back in
    let both = length-append (values_on words fwd) (values_on words back) in
    let first = length-map (words_on words fwd) (λ (row : WordRow). row.value) in
    let second = length-map (words_on words back) (λ (row : WordRow). row.value) in
    omega arith

over-few : (words : List WordRow) (cs : List ℕ) → length words ≤ max_rows
    → length (flat_map (values_with words) cs) ≤ length cs * (2 * max_rows)
over-few words [] few = omega arith
over-few words (c ∷ cs) few =
    let rest = over-few words cs few in
    let first = with-few words c in
    let all = length-append (values_with words c) (flat_map (values_with words) cs) in
    omega arith

count-range : (n : ℕ) → length (range_with_len 0 n) ≡ n
count-range n =
    sym (length-map (range_with_len 0 n) (λ (k : ℕ). k))
    ∙ length-map-range_with_len (λ (k : ℕ). k) 0 n

pub values-few : (words : List WordRow) (n : ℕ) → length words ≤ max_rows → n ≤ max_connections
    → length (values_of words n) < 2 ^ 32
values-few words n few within =
    let all = over-few words (range_with_len 0 n) few in
    let count = count-range n in
    omega arith

-- Two channels a connection.
pub length-channels_of : (n : ℕ) → length (channels_of n) ≡ 2 * n
length-channels_of n =
    over-two (range_with_len 0 n) ∙ ap (λ k. 2 * k) (count-range n)

module _ (inputs : Inputs) (accepted : AreAccepted inputs) (routing : Routing)
    (routes : IsRoutingFor inputs routing)
    (stimuli : AreStimuli (2 * length inputs.app.connections)
    (length (values_of inputs.words (length inputs.app.connections)))
    (wirings_of (loaded_components inputs)) (stimuli_of inputs)) where
  -- It has all that holds of networks.
  pub IsNetwork-first : (capacity : ℕ) → length (session_starts_of inputs) ≤ capacity
      → IsNetwork capacity (first_network inputs routing)
  unfolding first_network
  IsNetwork-first capacity enough =
      let chip = inputs.chip in
      let is_chip = accepted.design.chip_is in
      let connections = length inputs.app.connections in
      let channels = 2 * connections in
      let rooms = rooms_of inputs in
      let events = loaded_of inputs in
      let values = values_of inputs.words connections in
      let all = stimuli_of inputs in
      let components = routed_components inputs routing in
      let channel_states : length (first_network inputs routing).components.channel_states
      ≡ channels =
      length-replicate channels no_channel_state in
      let zeros : length (first_network inputs routing).untils ≡ channels = length-replicate channels 0 in
      let outsides : length (first_network inputs routing).outside ≡ channels =
      length-replicate channels 0 in
      let size = loaded-size routing chip is_chip rooms channels values events in
      let some_nis = is_chip.some_nis in
      let some : 0 < length components.parts = omega arith in
      let none = passed-first (λ (one : Offer). one.cycle) all.offers in
      let fewer = count_by-le-length (λ (row : WordRow). nat_lt row.cycle inputs.cycles) inputs.words in
      let kept = length-filter (λ (row : WordRow). nat_lt row.cycle inputs.cycles) inputs.words in
      let mapped = length-map (filter (λ (row : WordRow). nat_lt row.cycle inputs.cycles)
      inputs.words) offer_of in
      let left = length-drop (passed (λ (one : Offer). one.cycle) 0 all.offers) all.offers in
      let few_rows = accepted.words.few in
      let most = accepted.design.app_is.connections in
      let made : length (first_network inputs routing).log.channels ≡ length (channels_of connections) =
      length-map (channels_of connections) (first_channel inputs) in
      let counted = length-channels_of connections in
      record {
        stimuli = subst (λ n. AreStimuli n (length values) (wirings_of components) all)
            (sym channel_states)
            (subst (λ (wirings : List Wiring). AreStimuli channels (length values) wirings all)
            (loaded-wirings ByHeaders chip is_chip rooms channels values events
            ∙ sym (loaded-wirings routing chip is_chip rooms channels values events)) stimuli);
        enterings = later-order inputs routing routes;
        components = IsComponents-loaded routing chip is_chip rooms channels values events;
        some_parts = some;
        untils = omega arith;
        outside = omega arith;
        channels = omega arith;
        flits = refl;
        fit = AreFit-none (length values) (length components.parts) channels
            (drop (passed (λ (one : Offer). one.cycle) 0 all.offers) all.offers) some;
        counts = HaveCounts-none channels
            (drop (passed (λ (one : Offer). one.cycle) 0 all.offers) all.offers) (omega arith);
        fresh = All-weaker (IsFresh inputs.words)
            (λ (one : SessionStart). one.channel_state.accepted ≡ 0)
            (λ one fresh. fresh.none) (session_starts_of inputs)
            (fresh-session_starts inputs accepted);
        replaced = All-nil (IsChannelState (length values) (length components.parts));
        gone = sym (passed-first (λ (one : SessionStart). one.channel_state.go)
            (session_starts_of inputs));
        enough = enough;
        few_session_starts = session_starts-few inputs accepted;
        few_channels = omega arith;
        few_words = values-few inputs.words connections few_rows most;
        few_parts = few-parts routing chip is_chip rooms channels values events;
        cycles = accepted.cycles;
      }

-- All places are the first.
pub AreCursors-first : (cursors : Cursors) (all : Stimuli) (routing : Routing) → cursors.event ≡ 0
    → cursors.session_start ≡ 0 → cursors.offer ≡ 0 → cursors.take ≡ 0 → cursors.window ≡ 0
    → cursors.entering ≡ 0 → cursors.quiet_until ≡ 0 → cursors.calm_until ≡ 0
    → AreCursors cursors 0 all routing
AreCursors-first cursors all routing event session_start offer take window entering quiet calm = record {
  event_is = event ∙ sym (passed-first (λ (cycle : ℕ). cycle) all.schedule.cycles);
  session_start_is = session_start
      ∙ sym (passed-first (λ (one : SessionStart). one.channel_state.go)
      all.schedule.session_starts);
  offer_is = offer ∙ sym (passed-first (λ (one : Offer). one.cycle) all.offers);
  take_is = take ∙ sym (passed-first (λ (one : Take). one.cycle) all.takes);
  window_is = over-none cursors.window 0 all.schedule.windows window;
  entering_is = entering ∙ sym (passed-first (λ (one : Entering). one.cycle) (later_rows routing));
  quiet = quiet-first (λ (cycle : ℕ). cycle) _ _ all.schedule.cycles quiet;
  calm = record {
    session_starts =
        quiet-first (λ (one : SessionStart). one.channel_state.go) _ _ all.schedule.session_starts
        calm;
    takes = quiet-first (λ (one : Take). one.cycle) _ _ all.takes calm;
    enterings = quiet-first (λ (one : Entering). one.cycle) _ _ (later_rows routing) calm;
  };
  sooner = omega (arith, quiet, calm);
}

-- The components can do what is written before the first cycle, whatever the kind of routers.
pub loaded-doable : (inputs : Inputs) (accepted : AreAccepted inputs) (kind : RouterKind)
    → All (IsDoable (wirings_of (loaded_components inputs))) (loaded_of inputs)
    → All (IsDoable (map wiring_of (new_parts inputs.chip kind (rooms_of inputs))))
    (loaded_of inputs)
loaded-doable inputs accepted kind all =
    subst (λ (wirings : List Wiring). All (IsDoable wirings) (loaded_of inputs))
    (loaded-wirings ByHeaders inputs.chip accepted.design.chip_is (rooms_of inputs)
    (2 * length inputs.app.connections)
    (values_of inputs.words (length inputs.app.connections)) (loaded_of inputs)
    ∙ sym (wirings-kind inputs.chip kind (rooms_of inputs))) all

-- The network of inputs, part by part.
pub first-from : (inputs : Inputs) (stimuli : Stimuli) (routing : Routing) (state : State)
    (log : LogData) → stimuli ≡ stimuli_of inputs → IsFirstState inputs routing state
    → log ≡ first_log inputs → network_of stimuli routing state log 0 ≡ first_network inputs routing
unfolding first_network
first-from inputs stimuli routing state log given first log_is =
    rw (given, first.components, first.untils, first.outside, first.replaced, log_is) refl
