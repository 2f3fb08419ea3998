-- What a cycle brings, read off the rows between two places, and the components that it makes ready.
use Rattle.std.proofs.Common.{◌≡◌, ◌≤◌, ◌<◌, ◌+◌, ◌==◌, ◌++◌, ◌∙◌, ◌-◌, ◌^◌, ℕ, List, [], ap, arith}
use Rattle.std.proofs.Common.{cond, drop, fold, length, refl, subst, sym, All, slice_range}
use Rattle.std.proofs.Common.{vec_capacity, length-append}
use Rattle.std.proofs.lemmas.Bool.Decides.{nat_tests}
use Rattle.std.proofs.lemmas.List.{length-map, Elements.All-drop, Elements.All-filter}
use Rattle.std.proofs.lemmas.List.{Elements.All-take, Elements.All-weaker, Sums.sum_by-append}
use Rattle.aeth_trace.specs.Channels.{channel_number}
use Rattle.aeth_components.specs.{Components.ComponentsState, Components.ComponentsCycle}
use Rattle.aeth_components.specs.{Components.wirings_of, Events.IsDoable, Wirings.Wiring}
use Rattle.aeth_components.specs.{Wirings.wiring_of, ChannelStates.IsChannelState}
use Rattle.aeth_components.specs.{declared.event.Event.Event}
use Rattle.aeth_schedule.specs.declared.session_start.SessionStart.{SessionStart}
use Rattle.aeth_stimuli.specs.{Events.events_in, Stimuli.Offer, Stimuli.Take}
use Rattle.aeth_running.specs.Network.{NetworkState, gone_with, session_starts_in, offers_in}
use Rattle.aeth_running.specs.Network.{ready_in, stepped, takes_in, untils_in}
use Rattle.aeth_running.specs.Routing.{Entering, entered_with, enterings_in, later_rows}
use Rattle.aeth_running.specs.Quiet.{brought_over}
use Rattle.aeth_network.specs.{Behind.IsBehind, Behind.passed, Brought.CanBring, Brought.IsBrought}
use Rattle.aeth_network.specs.{Fits.AreFit, Fits.HaveCounts, Fits.is_accepted, Networks.IsNetwork}
use Rattle.aeth_network.specs.{declared.given.CycleRows.CycleRows, declared.state.State.State}
use Rattle.aeth_network.specs.{declared.network.RoutedNetwork.TheInside.Inside}
use Rattle.aeth_network.specs.{Cursors.routing_with, Cursors.stimuli_with, Routes.routing_in}
use Rattle.aeth_network.proofs.{FitLemmas.AreFit-all_gone, MappedRows.events-range}
use Rattle.aeth_network.proofs.{SeenNetworks.seen, SeenNetworks.seen_next, Passed.passed-few}
use Rattle.aeth_network.proofs.{Ready.All-passing, Ready.coming-are, Ready.wirings-ready}
use Rattle.aeth_network.proofs.{Ready.session_starts-are, Ready.length-in, Ready.ways-are}
use Rattle.aeth_network.proofs.{Stepping.behind-is}

module _ (all : Inside) (is : IsNetwork (vec_capacity all.state.replaced) (seen all)) where
  abbrev old : NetworkState
  old = seen all

  -- The words of a cycle are for channels that there are, and of this cycle.
  pub offers-known : All (λ one. one.number < length all.state.components.channel_states)
      (offers_in old.stimuli all.time)
  offers-known =
      All-filter (λ (one : Offer). one.cycle == all.time)
      (λ (one : Offer). one.number < length all.state.components.channel_states) old.stimuli.offers
      is.stimuli.offers

  pub offers-now : All (λ one. one.cycle ≡ all.time) (offers_in old.stimuli all.time)
  offers-now =
      All-passing (λ (one : Offer). Unit {0}) (λ (one : Offer). one.cycle ≡ all.time)
      (λ (one : Offer). one.cycle == all.time) old.stimuli.offers
      (λ one now any. grind (arith, nat_tests)) (λ k d within. tt)

  -- The components can do its events.
  pub events-known : All (IsDoable (wirings_of all.state.components))
      (events_in old.stimuli all.time)
  events-known =
      let wirings = wirings_of all.state.components in
      let schedule = old.stimuli.schedule in
      let from = passed (λ (cycle : ℕ). cycle) all.time schedule.cycles in
      let to = passed (λ (cycle : ℕ). cycle) (all.time + 1) schedule.cycles in
      subst (All (IsDoable wirings)) (events-range all.time schedule.cycles schedule.events
      is.stimuli.event_cycles is.stimuli.event_order)
      (All-take (IsDoable wirings) (to - from) (drop from schedule.events)
      (All-drop (IsDoable wirings) from schedule.events is.stimuli.events))

  -- The words have room, once the sessions of the cycle have gone.
  pub fit-started : AreFit (length all.state.components.words) (length all.state.components.parts)
      (untils_in old.stimuli all.time all.state.untils.items) (offers_in old.stimuli all.time)
      (fold gone_with all.state.components.channel_states (session_starts_in old.stimuli all.time))
  fit-started =
      let words = length all.state.components.words in
      let parts = length all.state.components.parts in
      let gone = fold gone_with all.state.components.channel_states
      (session_starts_in old.stimuli all.time) in
      let now = untils_in old.stimuli all.time all.state.untils.items in
      let key = λ (one : Offer). one.cycle in
      let later = drop (passed key (all.time + 1) old.stimuli.offers) old.stimuli.offers in
      let both : AreFit words parts now (offers_in old.stimuli all.time ++ later) gone =
      subst (λ (list : List Offer). AreFit words parts now list gone)
      (coming-are (vec_capacity all.state.replaced) old is)
      (AreFit-all_gone words parts all.state.untils.items
      (drop (passed key all.time old.stimuli.offers) old.stimuli.offers)
      all.state.components.channel_states
      (session_starts_in old.stimuli all.time) is.untils
      (ways-are (vec_capacity all.state.replaced) old is) is.fit) in
      λ k channel_state at.
      let one = both k channel_state at in
      let room = one.room in
      let sum = sum_by-append (λ (offer : Offer). cond (is_accepted now k offer) 1 0)
      (offers_in old.stimuli all.time) later in
      record { sound = one.sound; room = omega arith }

  -- They can be counted.
  pub counts-now : HaveCounts (offers_in old.stimuli all.time) all.state.outside.items
  counts-now =
      let later = drop (passed (λ (one : Offer). one.cycle) (all.time + 1) old.stimuli.offers)
      old.stimuli.offers in
      let size = length-append (offers_in old.stimuli all.time) later in
      All-weaker (λ n. n + length (offers_in old.stimuli all.time ++ later) < 2 ^ 32)
      (λ n. n + length (offers_in old.stimuli all.time) < 2 ^ 32) (λ n few. omega arith)
      all.state.outside.items
      (subst (λ (list : List Offer). HaveCounts list all.state.outside.items)
      (coming-are (vec_capacity all.state.replaced) old is) is.counts)

  -- There is room to note the channels whose sessions go.
  room-left : length all.state.replaced.items + length (session_starts_in old.stimuli all.time)
      ≤ vec_capacity all.state.replaced
  room-left =
      let key = λ (one : SessionStart). one.channel_state.go in
      let more = length-in key all.time old.stimuli.schedule.session_starts
      (session_starts_in old.stimuli all.time)
      (session_starts-are (vec_capacity all.state.replaced) old is) in
      let few = passed-few key (all.time + 1) old.stimuli.schedule.session_starts in
      let gone = is.gone in
      let enough = is.enough in
      omega arith

  module _ (rows : CycleRows)
      (session_starts : rows.session_starts ≡ session_starts_in (stimuli_with all.given) all.time)
      (offers : rows.offers.now ≡ offers_in (stimuli_with all.given) all.time)
      (takes : rows.takes.now ≡ takes_in (stimuli_with all.given) all.time) where
    -- A cycle can be brought.
    pub can-bring : CanBring all.state rows all.time
    can-bring =
        let channel_states = length all.state.components.channel_states in
        let words = length all.state.components.words in
        let parts = length all.state.components.parts in
        let goes = λ (one : SessionStart). one.channel_state.go == all.time in
        let size : length (wirings_of all.state.components) ≡ parts =
        length-map all.state.components.parts wiring_of in
        record {
          few_channels = is.few_channels;
          few_words = is.few_words;
          untils = is.untils;
          outside = is.outside;
          room = rw session_starts room-left;
          session_starts =
              rw session_starts
              (All-filter goes
              (λ (one : SessionStart). channel_number one.channel < channel_states)
              old.stimuli.schedule.session_starts is.stimuli.session_starts);
          channel_states = rw session_starts (All-passing
              (λ (one : SessionStart). IsChannelState words
              (length (wirings_of all.state.components)) one.channel_state)
              (λ (one : SessionStart). IsChannelState words parts one.channel_state) goes
              old.stimuli.schedule.session_starts
              (λ one now sound. subst (λ n. IsChannelState words n one.channel_state) size sound)
              is.stimuli.channel_states);
          offers = rw offers offers-known;
          now = rw offers offers-now;
          fit = rw (session_starts, offers) fit-started;
          counts = rw offers counts-now;
          takes = rw takes (All-filter (λ (one : Take). one.cycle == all.time)
              (λ (one : Take). one.number < channel_states) old.stimuli.takes is.stimuli.takes);
        }

    -- It was brought, and the components do its events.
    module _ (brought : State) (has : IsBrought rows all.time all.state brought)
        (events : rows.events.now ≡ events_in (stimuli_with all.given) all.time) where
      -- What is brought is what a cycle does in which no rows enter tables, but for the components' own.
      pub over : enterings_in old.routing all.time ≡ [] → seen_next all brought ≡ brought_over old
      over none =
          let behind = brought_over old in
          let ready = ready_in old in
          rw (has.components, has.outside, has.untils, has.replaced, session_starts, offers, takes)
          (ap (λ (enterings : List Entering). record behind {
            components = record ready {
              parts = fold entered_with all.state.components.parts enterings;
            };
          }) (sym none))

      module _ (entered : ComponentsState) (tables : rows.tables.now ≡ all.given.tables)
          (entering : IsBehind (λ one. one.cycle) all.time (later_rows (routing_with all.given))
          all.cursors.entering rows.behind.entering) (enters : entered ≡ record brought.components {
            parts = fold entered_with brought.components.parts
                (slice_range (later_rows (routing_in rows.tables.now)) all.cursors.entering
                rows.behind.entering);
          }) where
        ready : entered ≡ ready_in old
        ready = enters
            ∙ rw (
              has.components,
              has.untils,
              session_starts,
              offers,
              takes,
              tables,
              entering.rows_are,
            ) refl

        pub events-doable : All (IsDoable (wirings_of entered)) rows.events.now
        events-doable =
            rw (events, ready)
            (subst (λ (list : List Wiring). All (IsDoable list) (events_in old.stimuli all.time))
            (sym (wirings-ready (vec_capacity all.state.replaced) old is)) events-known)

        pub stepped-behind : (new : ComponentsState)
            → ComponentsCycle rows.events.now all.time entered new
            → seen_next all (record brought { components = new }) ≡ stepped old
        stepped-behind new did =
            let done : ComponentsCycle (events_in old.stimuli all.time) all.time (ready_in old)
            new =
            subst (λ (list : List Event). ComponentsCycle list all.time (ready_in old) new) events
            (subst (λ (one : ComponentsState). ComponentsCycle rows.events.now all.time one new)
            ready did) in
            rw (has.outside, has.untils, has.replaced, session_starts, offers)
            (behind-is (vec_capacity all.state.replaced) old is new done)
