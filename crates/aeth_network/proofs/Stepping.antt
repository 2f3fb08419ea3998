-- A cycle keeps what holds of networks.
use Rattle.std.proofs.Common.{◌≡◌, ◌<◌, ◌+◌, ◌==◌, ◌++◌, ◌∙◌, ℕ, List, ap, arith, drop, length, map}
use Rattle.std.proofs.Common.{subst, sym, All, length-append}
use Rattle.std.proofs.lemmas.List.{length-map, Elements.All-append}
use Rattle.std.specs.List.{slice_index_or}
use Rattle.aeth_trace.specs.Channels.{channel_number}
use Rattle.aeth_components.specs.Components.{ComponentsState, ComponentsCycle, wirings_of}
use Rattle.aeth_components.specs.Wirings.{Wiring}
use Rattle.aeth_components.specs.ChannelStates.{IsChannelState}
use Rattle.aeth_components.proofs.CountingLemmas.{length-flits_counted}
use Rattle.aeth_schedule.specs.declared.session_start.SessionStart.{SessionStart}
use Rattle.aeth_stimuli.specs.{Events.events_in, Loaded.no_channel_state, Stimuli.AreStimuli}
use Rattle.aeth_stimuli.specs.{Stimuli.Offer}
use Rattle.aeth_running.proofs.OutsideLogged.{length-all_outside}
use Rattle.aeth_running.specs.Network.{NetworkState, session_starts_in, offers_in, outside_in}
use Rattle.aeth_running.specs.Network.{ready_in, stepped, untils_in}
use Rattle.aeth_network.specs.{Behind.passed, Networks.IsNetwork, Fits.AreFit, Fits.HaveCounts}
use Rattle.aeth_network.proofs.CycleLemmas.{All-fit, AreFit-Cycle, Cycle-is, IsComponents-Cycle}
use Rattle.aeth_network.proofs.FitLemmas.{HaveCounts-offered}
use Rattle.aeth_network.proofs.ChannelStateCounts.{length-untils}
use Rattle.aeth_network.proofs.Ready.{All-passing, AreFit-ready, IsComponents-ready, coming-are}
use Rattle.aeth_network.proofs.Ready.{wirings-ready, session_starts-are, length-in, length-ready}
use Rattle.aeth_network.proofs.Ready.{replaced-are, size-ready}

module _ (capacity : ℕ) (old : NetworkState) (is : IsNetwork capacity old) (new : ComponentsState)
    (did : ComponentsCycle (events_in old.stimuli old.time) old.time (ready_in old) new) where
  -- A network behind such a cycle of its components.
  abbrev pub behind : NetworkState
  behind = record old {
    components = new;
    untils = untils_in old.stimuli old.time old.untils;
    outside = outside_in old.stimuli old.time
        (untils_in old.stimuli old.time old.untils) old.outside;
    replaced = old.replaced
        ++ map (λ one. slice_index_or old.components.channel_states (channel_number one.channel)
        no_channel_state)
        (session_starts_in old.stimuli old.time);
    time = old.time + 1;
  }

  -- It is the network behind one more cycle.
  pub behind-is : behind ≡ stepped old
  unfolding stepped
  behind-is = ap (λ (all : ComponentsState). record old {
    components = all;
    untils = untils_in old.stimuli old.time old.untils;
    outside = outside_in old.stimuli old.time
        (untils_in old.stimuli old.time old.untils) old.outside;
    replaced = old.replaced
        ++ map (λ one. slice_index_or old.components.channel_states (channel_number one.channel)
        no_channel_state)
        (session_starts_in old.stimuli old.time);
    time = old.time + 1;
  }) (Cycle-is (events_in old.stimuli old.time) old.time (ready_in old) new did)

  -- What holds of networks holds of it.
  pub IsNetwork-behind : IsNetwork capacity behind
  IsNetwork-behind =
      let t = old.time in
      let all = old.stimuli in
      let offers = all.offers in
      let untils = untils_in all t old.untils in
      let session_starts = session_starts_in all t in
      let key = λ (one : Offer). one.cycle in
      let to = passed key (t + 1) offers in
      let words : length new.words ≡ length old.components.words = ap length did.words in
      let channel_states : length new.channel_states ≡ length old.components.channel_states =
      did.count ∙ (length-ready capacity old is) in
      let parts : length new.parts ≡ length old.components.parts =
      did.size ∙ (size-ready capacity old is) in
      let wirings_are : wirings_of new ≡ wirings_of old.components =
      did.wirings ∙ (wirings-ready capacity old is) in
      let fit : AreFit (length old.components.words) (length old.components.parts) untils
      (drop to offers) new.channel_states =
      AreFit-Cycle (events_in all t) t (length old.components.parts) (ready_in old) new untils
      (drop to offers) did (AreFit-ready capacity old is) in
      let flits = ap length did.flits ∙ length-flits_counted new.wires old.components.flits in
      let old_untils = is.untils in
      let old_outside = is.outside in
      let old_channels = is.channels in
      let old_flits = is.flits in
      let few_channels = is.few_channels in
      let few_words = is.few_words in
      let few_parts = is.few_parts in
      let some_parts = is.some_parts in
      let gone = is.gone in
      let until_count = length-untils session_starts old.untils in
      let outside_count = length-all_outside t untils (offers_in all t) old.outside in
      let went = length-in (λ (one : SessionStart). one.channel_state.go) t
      all.schedule.session_starts session_starts (session_starts-are capacity old is) in
      let added = length-append old.replaced
      (map (λ (one : SessionStart). slice_index_or old.components.channel_states
      (channel_number one.channel)
      no_channel_state) session_starts) in
      let each = length-map session_starts
      (λ (one : SessionStart). slice_index_or old.components.channel_states
      (channel_number one.channel) no_channel_state) in
      let P = IsChannelState (length old.components.words) (length old.components.parts) in
      record {
        stimuli = subst (λ n. AreStimuli n (length new.words) (wirings_of new) all)
            (sym channel_states)
            (subst (λ n. AreStimuli (length old.components.channel_states) n (wirings_of new) all)
            (sym words)
            (subst (λ (wirings : List Wiring). AreStimuli (length old.components.channel_states)
            (length old.components.words) wirings all) (sym wirings_are) is.stimuli));
        enterings = is.enterings;
        components = IsComponents-Cycle (events_in all t) t (ready_in old) new did
            (IsComponents-ready capacity old is) (subst (λ n.
            All (IsChannelState (length old.components.words) n) new.channel_states)
            (sym (size-ready capacity old is))
            (All-fit (length old.components.words)
            (length old.components.parts) untils (drop to offers) new.channel_states fit));
        some_parts = omega arith;
        untils = omega arith;
        outside = omega arith;
        channels = omega arith;
        flits = omega arith;
        fit = subst (λ n. AreFit n (length new.parts) untils (drop to offers) new.channel_states)
            (sym words)
            (subst (λ n. AreFit (length old.components.words) n untils (drop to offers)
            new.channel_states) (sym parts) fit);
        counts = HaveCounts-offered t untils (offers_in all t) (drop to offers) old.outside
            (All-passing (λ (one : Offer). one.number < length old.components.channel_states)
            (λ (one : Offer). one.number < length old.outside)
            (λ (one : Offer). one.cycle == t) offers (λ one at within. omega arith)
            is.stimuli.offers)
            (subst (λ (list : List Offer). HaveCounts list old.outside) (coming-are capacity old is) is.counts);
        fresh = is.fresh;
        replaced = subst (λ n. All (IsChannelState n (length new.parts)) behind.replaced)
            (sym words)
            (subst (λ n. All (IsChannelState (length old.components.words) n) behind.replaced)
            (sym parts) (All-append P old.replaced
            (map (λ (one : SessionStart). slice_index_or old.components.channel_states
            (channel_number one.channel) no_channel_state) session_starts) is.replaced
            (replaced-are capacity old is)));
        gone = omega arith;
        enough = is.enough;
        few_session_starts = is.few_session_starts;
        few_channels = omega arith;
        few_words = omega arith;
        few_parts = omega arith;
        cycles = is.cycles;
      }
