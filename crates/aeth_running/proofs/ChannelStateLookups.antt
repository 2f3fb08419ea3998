-- A channel once sessions have gone, words are accepted and receivers have their rows: what the rows of
-- its own number make of it.
use Rattle.std.proofs.Common.{◌≡◌, ◌∙◌, ◌+◌, ℕ, suc, Bool, true, false, List, [], ◌∷◌, Some, filter}
use Rattle.std.proofs.Common.{fold, length, slice_get, refl, sym, ap, arith, ◌==◌, nat_lt}
use Rattle.std.proofs.Common.{slice_index, if◌then◌else◌}
use Rattle.std.proofs.lemmas.Option.{get_or_from_slice_get, slice_get_within}
use Rattle.aeth_base.proofs.Lists.{slice_get-slice_set_other, slice_get-slice_set_same}
use Rattle.aeth_trace.specs.Channels.{channel_number}
use Rattle.aeth_components.specs.ChannelStates.{with_channel_state}
use Rattle.aeth_components.specs.declared.channel_state.ChannelState.{ChannelState}
use Rattle.aeth_components.proofs.ChannelStateLemmas.{length-with_channel_state}
use Rattle.aeth_components.proofs.ChannelStateLemmas.{with_channel_state-other}
use Rattle.aeth_components.proofs.ChannelStateLemmas.{with_channel_state-own}
use Rattle.aeth_schedule.specs.declared.session_start.SessionStart.{SessionStart}
use Rattle.aeth_running.proofs.FoldLookups.{fold-at, length-fold}
use Rattle.aeth_running.specs.Network.{accepted_with, gone_with, session_starts_in}
use Rattle.aeth_running.specs.Network.{channel_states_in, offers_in, takes_in, until_with}
use Rattle.aeth_running.specs.Network.{untils_in}
use Rattle.aeth_stimuli.specs.Stimuli.{Offer, Stimuli, Take, is_over}

-- A row that changes the channel of its number.
module _ {R : Type 0} (place : R → ℕ) (change : R → ChannelState → ChannelState) where
  abbrev changed_by : List ChannelState → R → List ChannelState
  changed_by channel_states row = with_channel_state (place row) (change row) channel_states

  changed-at : (n : ℕ) (rows : List R) (channel_states : List ChannelState)
      (channel_state : ChannelState)
      → slice_get channel_states n ≡ Some channel_state
      → slice_get (fold changed_by channel_states rows) n
      ≡ Some (fold (λ one row. change row one) channel_state (filter (λ row. place row == n) rows))
  changed-at n rows channel_states channel_state at =
      fold-at place n (λ (one : ChannelState) (row : R). change row one) changed_by
      (λ some row one same there.
      ap (slice_get (with_channel_state (place row) (change row) some)) (sym same)
      ∙ with_channel_state-own (place row) (change row) some one (ap (slice_get some) same ∙ there))
      (λ some row apart. with_channel_state-other (place row) n (change row) some apart)
      rows channel_states channel_state at

  length-changed : (rows : List R) (channel_states : List ChannelState)
      → length (fold changed_by channel_states rows) ≡ length channel_states
  length-changed =
      length-fold changed_by (λ some row. length-with_channel_state (place row) (change row) some)

-- A session that goes.
abbrev pub entered : ChannelState → SessionStart → ChannelState
entered channel_state session_start =
    record session_start.channel_state { pull = channel_state.pull }

-- A word more, where it is accepted.
abbrev pub grown : Bool → ChannelState → ChannelState
grown true channel_state = record channel_state { accepted = channel_state.accepted + 1 }
grown false channel_state = channel_state

abbrev accepted_by : Bool → List ChannelState → Offer → List ChannelState
accepted_by is channel_states offer =
    if is then with_channel_state offer.number
    (λ channel_state. record channel_state { accepted = channel_state.accepted + 1 })
    channel_states
    else channel_states

grown-many : (is : Bool) (offers : List Offer) (channel_state : ChannelState)
    → fold (λ (one : ChannelState) (offer : Offer). grown is one) channel_state offers
    ≡ record channel_state { accepted = channel_state.accepted + (if is then length offers else 0) }
grown-many true [] channel_state =
    let same : channel_state.accepted ≡ channel_state.accepted + 0 = omega arith in
    ap (λ n. record channel_state { accepted = n }) same
grown-many true (offer ∷ offers) channel_state =
    let same : channel_state.accepted + 1 + length offers
    ≡ channel_state.accepted + suc (length offers) =
    omega arith in
    grown-many true offers (grown true channel_state)
    ∙ ap (λ n. record channel_state { accepted = n }) same
grown-many false [] channel_state =
    let same : channel_state.accepted ≡ channel_state.accepted + 0 = omega arith in
    ap (λ n. record channel_state { accepted = n }) same
grown-many false (offer ∷ offers) channel_state = grown-many false offers channel_state

-- The rows of a receiver.
pulled-many : (takes : List Take) (channel_state : ChannelState)
    → fold (λ (one : ChannelState) (take : Take). record one { pull = take.pull }) channel_state
    takes
    ≡ record channel_state { pull = fold (λ before take. take.pull) channel_state.pull takes }
pulled-many [] channel_state = refl
pulled-many (take ∷ takes) channel_state =
    pulled-many takes (record channel_state { pull = take.pull })

module _ (t : ℕ) (untils : List ℕ) where
  accepted-own : (is : Bool) (n : ℕ) (channel_states : List ChannelState) (offer : Offer)
      (channel_state : ChannelState)
      → offer.number ≡ n → slice_get channel_states n ≡ Some channel_state
      → slice_get (accepted_by is channel_states offer) n ≡ Some (grown is channel_state)
  accepted-own true n channel_states offer channel_state same at =
      ap (slice_get (with_channel_state offer.number (grown true) channel_states)) (sym same)
      ∙ with_channel_state-own offer.number (grown true) channel_states channel_state
      (ap (slice_get channel_states) same ∙ at)
  accepted-own false n channel_states offer channel_state same at = at

  accepted-other : (is : Bool) (n : ℕ) (channel_states : List ChannelState) (offer : Offer)
      → (offer.number ≡ n → ⊥)
      → slice_get (accepted_by is channel_states offer) n ≡ slice_get channel_states n
  accepted-other true n channel_states offer apart =
      with_channel_state-other offer.number n (grown true) channel_states apart
  accepted-other false n channel_states offer apart = refl

  length-accepted : (is : Bool) (channel_states : List ChannelState) (offer : Offer)
      → length (accepted_by is channel_states offer) ≡ length channel_states
  length-accepted true channel_states offer =
      length-with_channel_state offer.number (grown true) channel_states
  length-accepted false channel_states offer = refl

  -- Words that are offered, where channels accept words until these cycles.
  offered-at : (n : ℕ) (offers : List Offer) (channel_states : List ChannelState)
      (channel_state : ChannelState)
      → slice_get channel_states n ≡ Some channel_state
      → slice_get (fold (accepted_with t untils) channel_states offers) n
      ≡ Some (fold
      (λ (one : ChannelState) (offer : Offer). grown (nat_lt t (slice_index untils n)) one)
      channel_state
      (filter (λ offer. offer.number == n) offers))
  offered-at n offers channel_states channel_state at =
      fold-at (λ (offer : Offer). offer.number) n
      (λ (one : ChannelState) (offer : Offer). grown (nat_lt t (slice_index untils n)) one)
      (accepted_with t untils)
      (λ some offer one same there.
      accepted-own (nat_lt t (slice_index untils offer.number)) n some offer one same there
      ∙ ap (λ m. Some (grown (nat_lt t (slice_index untils m)) one)) same)
      (λ some offer apart.
      accepted-other (nat_lt t (slice_index untils offer.number)) n some offer apart)
      offers channel_states channel_state at

  -- There are as many channels as before.
  pub length-offered : (offers : List Offer) (channel_states : List ChannelState)
      → length (fold (accepted_with t untils) channel_states offers) ≡ length channel_states
  length-offered = length-fold (accepted_with t untils) (λ some offer.
      length-accepted (nat_lt t (slice_index untils offer.number)) some offer)

module _ (all : Stimuli) (t n : ℕ) where
  -- The channel of a number in a cycle, where it accepts words until then.
  abbrev pub channel_state_in : ℕ → ChannelState → ChannelState
  channel_state_in until channel_state =
      let gone = fold entered channel_state (filter (is_over n) (session_starts_in all t)) in
      record gone {
        accepted = gone.accepted + (if nat_lt t until
            then length (filter (λ offer. offer.number == n) (offers_in all t)) else 0);
        pull = fold (λ before take. take.pull) gone.pull
            (filter (λ take. take.number == n) (takes_in all t));
      }

  pub channel_state-in : (untils : List ℕ) (until : ℕ) (channel_states : List ChannelState)
      (channel_state : ChannelState)
      → slice_get untils n ≡ Some until → slice_get channel_states n ≡ Some channel_state
      → slice_get (channel_states_in all t untils channel_states) n
      ≡ Some (channel_state_in until channel_state)
  channel_state-in untils until channel_states channel_state until_at at =
      let session_starts = session_starts_in all t in
      let offers = offers_in all t in
      let takes = takes_in all t in
      let gone = fold entered channel_state (filter (is_over n) session_starts) in
      let mine = filter (λ (offer : Offer). offer.number == n) offers in
      let own = filter (λ (take : Take). take.number == n) takes in
      let went : slice_get (fold gone_with channel_states session_starts) n ≡ Some gone =
      changed-at (λ (session_start : SessionStart). channel_number session_start.channel)
      (λ (session_start : SessionStart) (one : ChannelState). entered one session_start) n
      session_starts channel_states channel_state at in
      let read : slice_index untils n ≡ until = get_or_from_slice_get untils n until 0 until_at in
      let is = nat_lt t until in
      let accepts : slice_get
      (fold (accepted_with t untils) (fold gone_with channel_states session_starts) offers) n
      ≡ Some (record gone { accepted = gone.accepted + (if is then length mine else 0) }) =
      offered-at t untils n offers (fold gone_with channel_states session_starts) gone went
      ∙ ap (λ m. Some
      (fold (λ (one : ChannelState) (offer : Offer). grown (nat_lt t m) one) gone mine)) read
      ∙ ap (λ (one : ChannelState). Some one) (grown-many is mine gone) in
      changed-at (λ (take : Take). take.number)
      (λ (take : Take) (one : ChannelState). record one { pull = take.pull }) n takes
      (fold (accepted_with t untils) (fold gone_with channel_states session_starts) offers)
      (record gone { accepted = gone.accepted + (if is then length mine else 0) }) accepts
      ∙ ap (λ (one : ChannelState). Some one)
      (pulled-many own (record gone { accepted = gone.accepted + (if is then length mine else 0) }))

  -- Until when the channel accepts words.
  pub until-in : (untils : List ℕ) (until : ℕ) → slice_get untils n ≡ Some until
      → slice_get (untils_in all t untils) n
      ≡ Some (fold (λ before session_start. session_start.until) until
      (filter (is_over n) (session_starts_in all t)))
  until-in untils until at =
      fold-at (λ (session_start : SessionStart). channel_number session_start.channel) n
      (λ (before : ℕ) (session_start : SessionStart). session_start.until) until_with
      (λ some session_start before same there.
      let within = slice_get_within some n before there in
      ap (slice_get (until_with some session_start)) (sym same)
      ∙ slice_get-slice_set_same some (channel_number session_start.channel) session_start.until
      (omega (arith, within, same)))
      (λ some session_start apart. slice_get-slice_set_other some
      (channel_number session_start.channel) n session_start.until
      (λ same. apart (sym same)))
      (session_starts_in all t) untils until at

-- There are as many channels as before.
pub length-channel_states_in : (all : Stimuli) (t : ℕ) (untils : List ℕ)
    (channel_states : List ChannelState)
    → length (channel_states_in all t untils channel_states) ≡ length channel_states
length-channel_states_in all t untils channel_states =
    let gone = fold gone_with channel_states (session_starts_in all t) in
    length-changed (λ (take : Take). take.number)
    (λ (take : Take) (one : ChannelState). record one { pull = take.pull }) (takes_in all t)
    (fold (accepted_with t untils) gone (offers_in all t))
    ∙ length-offered t untils (offers_in all t) gone
    ∙ length-changed (λ (session_start : SessionStart). channel_number session_start.channel)
    (λ (session_start : SessionStart) (one : ChannelState). entered one session_start)
    (session_starts_in all t) channel_states
