-- A network while a cycle of it runs.
use Rattle.std.proofs.Common.{◌≡◌, ◌≤◌, ◌<◌, ◌+◌, ◌-◌, ◌==◌, ◌&&◌, ◌++◌, ◌∙◌, ℕ, Bool, true, List}
use Rattle.std.proofs.Common.{[], ◌∷◌, ap, arith, drop, filter, fold, get_or, inl, inr, length, map}
use Rattle.std.proofs.Common.{nat_lt, refl, subst, sym, All, count_by, slice_range, length-drop}
use Rattle.std.proofs.Common.{length-take}
use Rattle.std.proofs.lemmas.Bool.{cases_Bool, Decides.nat_tests}
use Rattle.std.proofs.lemmas.List.{length-map, Elements.All-cons, Elements.All-get_or}
use Rattle.std.proofs.lemmas.List.{Elements.All-head, Elements.All-map, Elements.All-nil}
use Rattle.std.proofs.lemmas.List.{Elements.All-tail, Folds.drop_split}
use Rattle.std.specs.List.{slice_index_or}
use Rattle.aeth_trace.specs.Channels.{channel_number}
use Rattle.aeth_components.specs.{Components.IsComponents, Components.wirings_of}
use Rattle.aeth_components.specs.{Entering.with_rows, Wirings.Wiring, Wirings.IsWired}
use Rattle.aeth_components.specs.{Wirings.wiring_of, ChannelStates.IsChannelState}
use Rattle.aeth_components.proofs.EnteringLemmas.{wirings-entered}
use Rattle.aeth_router.specs.declared.part.Part.{Part}
use Rattle.aeth_schedule.specs.declared.session_start.SessionStart.{SessionStart}
use Rattle.aeth_running.proofs.ChannelStateLookups.{length-offered}
use Rattle.aeth_running.specs.Network.{NetworkState, accepted_with, gone_with, session_starts_in}
use Rattle.aeth_running.specs.Network.{offers_in, ready_in, takes_in, untils_in}
use Rattle.aeth_running.specs.Routing.{Entering, entered_with, enterings_in}
use Rattle.aeth_stimuli.specs.Loaded.{no_channel_state}
use Rattle.aeth_stimuli.specs.Stimuli.{Offer, is_offered_in, is_over}
use Rattle.aeth_network.specs.{Behind.passed, Networks.IsNetwork, Fits.AreFit}
use Rattle.aeth_network.proofs.CycleLemmas.{All-fit}
use Rattle.aeth_network.proofs.FitLemmas.{AreFit-all_gone, AreFit-offered, AreFit-taking, HasWay}
use Rattle.aeth_network.proofs.CountLemmas.{count-behind}
use Rattle.aeth_network.proofs.ChannelStateCounts.{length-gone, length-taking}
use Rattle.aeth_network.proofs.Passed.{passed-behind, passed-few, passed-more, passed-range}

-- What passes a test has what all that pass it have.
pub All-passing : {X : Type 0} (P Q : X → Type 0) (test : X → Bool) (xs : List X)
    → ((x : X) → test x ≡ true → P x → Q x) → All P xs → All Q (filter test xs)
All-passing P Q test [] gives all = All-nil Q
All-passing P Q test (x ∷ xs) gives all =
    let rest = All-passing P Q test xs gives (All-tail P x xs all) in
    elim (cases_Bool (test x)) [
      | inl passes ↦ rw passes
          (All-cons Q x (filter test xs) (gives x passes (All-head P x xs all)) rest)
      | inr fails ↦ rw fails rest
    ]

-- As many rows of a cycle as there are behind it more than before it.
pub length-in : {X : Type 0} (key : X → ℕ) (t : ℕ) (xs rows : List X)
    → slice_range xs (passed key t xs) (passed key (t + 1) xs) ≡ rows
    → passed key t xs + length rows ≡ passed key (t + 1) xs
length-in key t xs rows is =
    let first = passed key t xs in
    let last = passed key (t + 1) xs in
    let more = passed-more key t xs in
    let few = passed-few key (t + 1) xs in
    let size = length-take (last - first) (drop first xs) in
    let left = length-drop first xs in
    let same = ap length is in
    omega arith

-- Rows that enter tables one after the other change no wiring.
wirings-with : (enterings : List Entering) (parts : List Part)
    → map wiring_of (fold entered_with parts enterings) ≡ map wiring_of parts
wirings-with [] parts = refl
wirings-with (entering ∷ enterings) parts =
    wirings-with enterings (with_rows entering.rows parts) ∙ wirings-entered entering.rows parts

module _ (capacity : ℕ) (old : NetworkState) (is : IsNetwork capacity old) where
  -- The rows of the next cycle stand behind those before it.
  pub session_starts-are : slice_range old.stimuli.schedule.session_starts
      (passed (λ one. one.channel_state.go) old.time old.stimuli.schedule.session_starts)
      (passed (λ one. one.channel_state.go) (old.time + 1) old.stimuli.schedule.session_starts)
      ≡ session_starts_in old.stimuli old.time
  session_starts-are =
      passed-range (λ (one : SessionStart). one.channel_state.go) old.time
      old.stimuli.schedule.session_starts
      is.stimuli.session_start_order

  pub offers-are : slice_range old.stimuli.offers
      (passed (λ one. one.cycle) old.time old.stimuli.offers)
      (passed (λ one. one.cycle) (old.time + 1) old.stimuli.offers)
      ≡ offers_in old.stimuli old.time
  offers-are = passed-range (λ (one : Offer). one.cycle) old.time old.stimuli.offers
      is.stimuli.offer_order

  -- The words that are coming are those of the cycle, before the later ones.
  pub coming-are : drop (passed (λ one. one.cycle) old.time old.stimuli.offers) old.stimuli.offers
      ≡ offers_in old.stimuli old.time
      ++ drop (passed (λ one. one.cycle) (old.time + 1) old.stimuli.offers) old.stimuli.offers
  coming-are =
      let offers = old.stimuli.offers in
      let key = λ (one : Offer). one.cycle in
      let from = passed key old.time offers in
      let to = passed key (old.time + 1) offers in
      drop_split offers from to (passed-more key old.time offers)
      ∙ ap (λ (rows : List Offer). rows ++ drop to offers) offers-are

  -- Each session that goes has room for what it accepts.
  pub ways-are : All (HasWay (length old.components.words) (length old.components.parts)
      (drop (passed (λ one. one.cycle) old.time old.stimuli.offers) old.stimuli.offers))
      (session_starts_in old.stimuli old.time)
  ways-are =
      let words = length old.components.words in
      let parts = length old.components.parts in
      let offers = old.stimuli.offers in
      let session_starts = old.stimuli.schedule.session_starts in
      let first = passed (λ (one : Offer). one.cycle) old.time offers in
      let size : length (wirings_of old.components) ≡ parts =
      length-map old.components.parts wiring_of in
      let later : All (λ (one : Offer). old.time ≤ one.cycle) (drop first offers) =
      passed-behind (λ (one : Offer). one.cycle) old.time offers is.stimuli.offer_order in
      let known : All (λ (one : SessionStart). IsChannelState words parts one.channel_state
      × (one.channel_state.accepted ≡ 0)
      × (one.channel_state.first + count_by (is_offered_in one) offers ≤ words)) session_starts =
      λ k d within. (
        subst (λ n. IsChannelState words n (get_or session_starts k d).channel_state) size
            (is.stimuli.channel_states k d within),
        is.fresh k d within,
        is.stimuli.room k d within,
      ) in
      All-passing (λ (one : SessionStart). IsChannelState words parts one.channel_state
      × (one.channel_state.accepted ≡ 0)
      × (one.channel_state.first + count_by (is_offered_in one) offers ≤ words))
      (HasWay words parts (drop first offers))
      (λ (one : SessionStart). one.channel_state.go == old.time) session_starts
      (λ one goes holds.
      let fewer = count-behind
      (λ (offer : Offer). is_over offer.number one && nat_lt offer.cycle one.until)
      (is_offered_in one) first offers
      (λ k d within accepts.
      let now = later k d within in
      grind (arith, nat_tests)) in
      let room = holds.2 in
      record { sound = holds.0; none = holds.1; room = omega arith })
      known

  -- The channels have room while the cycle runs.
  pub AreFit-ready : AreFit (length old.components.words) (length old.components.parts)
      (untils_in old.stimuli old.time old.untils)
      (drop (passed (λ one. one.cycle) (old.time + 1) old.stimuli.offers) old.stimuli.offers)
      (ready_in old).channel_states
  AreFit-ready =
      let words = length old.components.words in
      let parts = length old.components.parts in
      let t = old.time in
      let offers = old.stimuli.offers in
      let untils = untils_in old.stimuli t old.untils in
      let session_starts = session_starts_in old.stimuli t in
      let gone = fold gone_with old.components.channel_states session_starts in
      let to = passed (λ (one : Offer). one.cycle) (t + 1) offers in
      let coming = drop (passed (λ (one : Offer). one.cycle) t offers) offers in
      AreFit-taking words parts untils (drop to offers) (takes_in old.stimuli t)
      (fold (accepted_with t untils) gone (offers_in old.stimuli t))
      (AreFit-offered words parts t untils (offers_in old.stimuli t) (drop to offers) gone
      (All-passing (λ (one : Offer). Unit {0}) (λ (one : Offer). one.cycle ≡ t)
      (λ (one : Offer). one.cycle == t) offers (λ one at any. grind (arith, nat_tests))
      (λ k d within. tt))
      (subst (λ (list : List Offer). AreFit words parts untils list gone) coming-are
      (AreFit-all_gone words parts old.untils coming old.components.channel_states session_starts
      is.untils
      ways-are is.fit)))

  -- Their number stays.
  pub length-ready : length (ready_in old).channel_states ≡ length old.components.channel_states
  length-ready =
      let t = old.time in
      let untils = untils_in old.stimuli t old.untils in
      let gone = fold gone_with old.components.channel_states (session_starts_in old.stimuli t) in
      length-taking (takes_in old.stimuli t)
      (fold (accepted_with t untils) gone (offers_in old.stimuli t))
      ∙ length-offered t untils (offers_in old.stimuli t) gone
      ∙ length-gone (session_starts_in old.stimuli t) old.components.channel_states

  -- Rows that enter tables change no wiring, and components are as many as before.
  pub wirings-ready : wirings_of (ready_in old) ≡ wirings_of old.components
  wirings-ready = wirings-with (enterings_in old.routing old.time) old.components.parts

  pub size-ready : length (ready_in old).parts ≡ length old.components.parts
  size-ready =
      sym (length-map (ready_in old).parts wiring_of) ∙ ap length wirings-ready
      ∙ length-map old.components.parts wiring_of

  -- The components are sound while the cycle runs.
  pub IsComponents-ready : IsComponents (ready_in old)
  IsComponents-ready =
      let sound = is.components in
      record {
        wired = subst (λ (wirings : List Wiring). IsWired wirings (length old.components.wires))
            (sym wirings-ready) sound.wired;
        channel_states =
            subst (λ n. All (IsChannelState (length old.components.words) n)
            (ready_in old).channel_states)
            (sym size-ready) (All-fit (length old.components.words) (length old.components.parts)
            (untils_in old.stimuli old.time old.untils)
            (drop (passed (λ (one : Offer). one.cycle) (old.time + 1) old.stimuli.offers)
            old.stimuli.offers) (ready_in old).channel_states AreFit-ready);
        landings = sound.landings;
        flits = sound.flits;
        few = sound.few;
      }

  -- The channels that are replaced.
  pub replaced-are : All
      (IsChannelState (length old.components.words) (length old.components.parts))
      (map (λ one. slice_index_or old.components.channel_states (channel_number one.channel)
      no_channel_state)
      (session_starts_in old.stimuli old.time))
  replaced-are =
      let channel_states = old.components.channel_states in
      let P = IsChannelState (length old.components.words) (length old.components.parts) in
      All-map P (λ (one : SessionStart). slice_index_or channel_states (channel_number one.channel)
      no_channel_state)
      (session_starts_in old.stimuli old.time)
      (All-passing (λ (one : SessionStart). channel_number one.channel < length channel_states)
      (λ (one : SessionStart). P
      (slice_index_or channel_states (channel_number one.channel) no_channel_state))
      (λ (one : SessionStart). one.channel_state.go == old.time) old.stimuli.schedule.session_starts
      (λ one goes within. All-get_or P channel_states (channel_number one.channel) no_channel_state
      within
      is.components.channel_states)
      is.stimuli.session_starts)
