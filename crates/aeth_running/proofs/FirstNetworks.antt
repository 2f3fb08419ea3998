-- The network of accepted inputs before the first cycle: its components run, and no channel has a
-- session.
use Rattle.std.proofs.Common.{◌≡◌, ◌≤◌, ◌<◌, ◌∙◌, ◌*◌, ℕ, List, Some, Option, None, get_or, length}
use Rattle.std.proofs.Common.{replicate, All, map, slice_get, refl, subst, sym, ap, arith}
use Rattle.std.proofs.lemmas.List.{get_or-replicate, length-map, length-replicate}
use Rattle.std.proofs.lemmas.List.Elements.{All-replicate}
use Rattle.std.proofs.lemmas.Option.{same_Some, slice_get-get_or, slice_get_within}
use Rattle.aeth_chip.specs.{Chip.IsChip, Wires.wires_of}
use Rattle.aeth_chip.proofs.WireLemmas.{have_delays, wires_of-split}
use Rattle.aeth_clocked.specs.declared.flit.Flit.{Flit}
use Rattle.aeth_trace.specs.{Channels.channel_number, Limits.usual_pull, Receivers.pulls_on}
use Rattle.aeth_trace.specs.{declared.receivers.PullRow.PullRow}
use Rattle.aeth_components.proofs.{MadeLemmas.length-new_parts, PartLemmas.wirings-switched}
use Rattle.aeth_components.specs.{Changes.switched, Components.ComponentsState}
use Rattle.aeth_components.specs.{Components.IsComponents, Components.first_components}
use Rattle.aeth_components.specs.{Components.wirings_of, Wirings.Wiring, Wirings.IsWired}
use Rattle.aeth_components.specs.{Wirings.wiring_of, ChannelStates.IsChannelState, Making.new_parts}
use Rattle.aeth_components.specs.{declared.channel_state.ChannelState.ChannelState}
use Rattle.aeth_components.specs.{declared.making.RouterKind.TheVariants.ByHeader}
use Rattle.aeth_invariant.specs.WellRouted.{AreWellRouted}
use Rattle.aeth_accepted.specs.Inputs.{Inputs, run_of}
use Rattle.aeth_routed_sessions.specs.RoutedSessions.{routed_sessions_of, routed_session_of}
use Rattle.aeth_schedule.specs.{Rooms.rooms_of, Switching.loaded_of, Values.values_of}
use Rattle.aeth_refinement.proofs.{Routed.wirings-but_tables, Running.runs-but_tables}
use Rattle.aeth_refinement.specs.{Beginning.AreEmpty, Events.AreEvents, Routed.without_table}
use Rattle.aeth_refinement.specs.{Running.Runs}
use Rattle.aeth_stimuli.proofs.{FittingEvents.rooms-counted, WordWindows.below-none}
use Rattle.aeth_stimuli.specs.{Loaded.loaded_components, Loaded.no_channel_state, OnChip.HaveRooms}
use Rattle.aeth_stimuli.specs.{OnChip.IsOver, Sessions.channel_of}
use Rattle.aeth_running.proofs.{ChannelNumbers.channel-within, ChannelRows.last_pull}
use Rattle.aeth_running.proofs.{ChannelStates.Unused, NetworkLaws.BeginningLaws, NetworkSteps.Plays}
use Rattle.aeth_running.proofs.{RouterTables.but-first, RouterTables.tables-first}
use Rattle.aeth_running.specs.{Network.first_network, Network.routed_components, Routing.Routing}
use Rattle.aeth_running.specs.{Running.HoldsBefore}
use Rattle.aeth_report.specs.SessionList.{session_list, listed_at, partner_of, place_at}

-- What stands at a place of a list of one item.
replicate-at : {X : Type 0} (size i : ℕ) (x y : X) → slice_get (replicate size x) i ≡ Some y → x ≡ y
replicate-at size i x y at =
    let within = slice_get_within (replicate size x) i y at in
    let count = length-replicate size x in
    sym (get_or-replicate size i x x (omega (arith, within, count)))
    ∙ same_Some (get_or (replicate size x) i x) y
    (sym (slice_get-get_or (replicate size x) i x within) ∙ at)

at-replicate : {X : Type 0} (size i : ℕ) (x : X) → i < size
    → slice_get (replicate size x) i ≡ Some x
at-replicate size i x within =
    let count = length-replicate size x in
    slice_get-get_or (replicate size x) i x (omega (arith, within, count))
    ∙ ap (λ y. Some y) (get_or-replicate size i x x within)

module _ (inputs : Inputs) where
  abbrev channel_states : List ChannelState
  channel_states = replicate (2 * length inputs.app.connections) no_channel_state

  abbrev words : List ℕ
  words = values_of inputs.words (length inputs.app.connections)

  abbrev made : ComponentsState
  made = first_components inputs.chip ByHeader (rooms_of inputs) channel_states words

  module _ (laws : BeginningLaws) (is_chip : IsChip inputs.chip)
      (ok : AreWellRouted (routed_sessions_of inputs))
      (is-over : IsOver (routed_sessions_of inputs) inputs.chip)
      (have-rooms : HaveRooms (routed_sessions_of inputs) (rooms_of inputs))
      (loaded-are : AreEvents (routed_sessions_of inputs) 0 (loaded_of inputs)) where
    begins : AreEmpty (routed_sessions_of inputs) made
    begins = laws.chips_begin inputs.chip is_chip (rooms_of inputs) (rooms-counted inputs)
        (length (session_list (run_of inputs)))
        (λ c. routed_session_of (run_of inputs) (place_at (run_of inputs) c)
        (listed_at (run_of inputs) c))
        partner_of is-over have-rooms channel_states words
        (λ number channel_state at. sym (ap (λ (one : ChannelState). one.fin)
        (replicate-at (2 * length inputs.app.connections) number no_channel_state channel_state
        at)))

    runs : Runs (routed_sessions_of inputs) (channel_of inputs) 0 (λ c. 0)
        (loaded_components inputs)
    runs = laws.runs_begin (routed_sessions_of inputs) ok (channel_of inputs) (loaded_of inputs)
        made begins
        loaded-are

    parts-some : 1 ≤ length (loaded_components inputs).parts
    parts-some =
        let parts = new_parts inputs.chip ByHeader (rooms_of inputs) in
        let after = switched (loaded_of inputs) parts in
        let same = ap length (wirings-switched (loaded_of inputs) parts) in
        let one = length-map after wiring_of in
        let two = length-map parts wiring_of in
        let count = length-new_parts inputs.chip (rooms_of inputs) in
        let some = is_chip.some_nis in
        omega (arith, same, one, two, count, some)

    no-channel_state : IsChannelState (length words) (length (loaded_components inputs).parts)
        no_channel_state
    no-channel_state =
        let some = parts-some in
        record {
          sender = record { part = omega (arith, some); queue = omega arith };
          receiver = record { part = omega (arith, some); queue = omega arith };
          taken = omega arith;
          landed = omega arith;
          enqueued = omega arith;
          within = omega arith;
        }

    sound : IsComponents (loaded_components inputs)
    sound =
        let zero_count : ℕ = 0 in
        let links = length-replicate (length inputs.chip.links) zero_count in
        let none : Option Flit = None in
        let wires = length-replicate (wires_of inputs.chip.links) none in
        let split = wires_of-split inputs.chip.links (have_delays inputs.chip is_chip) in
        let few = is_chip.few_links in
        record {
          wired = runs.wired;
          channel_states =
              All-replicate
              (IsChannelState (length words) (length (loaded_components inputs).parts))
              (2 * length inputs.app.connections) no_channel_state no-channel_state;
          landings = length-replicate (length words) 0;
          flits = omega (arith, links, wires, split);
          few = omega (arith, links, few);
        }

    -- With the first rows in the tables of routers.
    module _ (routing : Routing) where
      abbrev routed : ComponentsState
      routed = routed_components inputs routing

      same : map without_table routed.parts ≡ map without_table (loaded_components inputs).parts
      same = but-first routing inputs.chip (rooms_of inputs) (loaded_of inputs)

      wirings-same : wirings_of (routed_components inputs routing)
          ≡ wirings_of (loaded_components inputs)
      wirings-same = wirings-but_tables routed.parts (loaded_components inputs).parts same

      count-same : length (loaded_components inputs).parts
          ≡ length (routed_components inputs routing).parts
      count-same = sym (length-map (loaded_components inputs).parts wiring_of)
          ∙ ap length (sym wirings-same) ∙ length-map routed.parts wiring_of

      routed-sound : IsComponents (routed_components inputs routing)
      routed-sound =
          let before = sound in
          record {
            wired = subst (λ (list : List Wiring). IsWired list
                (length (loaded_components inputs).wires)) (sym wirings-same) before.wired;
            channel_states = subst (λ (n : ℕ). All (IsChannelState (length words) n)
                (loaded_components inputs).channel_states) count-same before.channel_states;
            landings = before.landings;
            flits = before.flits;
            few = before.few;
          }

      first-running : HoldsBefore inputs 0 (routed_components inputs routing)
      first-running = record {
        enqueued = λ c. 0;
        runs = runs-but_tables (routed_sessions_of inputs) (channel_of inputs) 0 (λ c. 0)
            (loaded_components inputs) routed.parts same runs;
        sound = routed-sound;
        wirings = wirings-same;
        words = refl;
        channel_states = length-replicate (2 * length inputs.app.connections) no_channel_state;
        links = length-replicate (length inputs.chip.links) 0;
        flits = λ l count at. sym (replicate-at (length inputs.chip.links) l 0 count at);
        notes = λ c i u known session_start soon. absurd (omega (arith, soon));
        logged = λ c latest. let gone = latest.gone in absurd (omega (arith, gone));
        last = λ c latest. let gone = latest.gone in absurd (omega (arith, gone));
      }

      pub first-plays : Plays inputs routing (first_network inputs routing)
      unfolding first_network
      first-plays = record {
        stimuli_are = refl;
        routing_is = refl;
        log_is = refl;
        running = first-running;
        tables = tables-first inputs.chip routing (rooms_of inputs) (loaded_of inputs);
        channels = λ channel known.
            let within = channel-within channel (length inputs.app.connections) known in
            record {
              channel_state = no_channel_state;
              until = 0;
              at = at-replicate (2 * length inputs.app.connections) (channel_number channel)
                  no_channel_state
                  within;
              until_at = at-replicate (2 * length inputs.app.connections) (channel_number channel) 0
                  within;
              pull_is = ap (last_pull usual_pull) (sym (below-none (λ (row : PullRow). row.cycle) 0
                  (pulls_on inputs.pulls channel) (λ k row within. omega arith)));
              stands = Unused (λ c h on soon. absurd (omega (arith, soon))) refl;
            };
      }
