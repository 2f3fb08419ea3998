-- Channels have room for the words that are coming, from one change to the next.
use Rattle.std.proofs.Common.{◌≡◌, ◌≤◌, ◌<◌, ◌+◌, ◌&&◌, ◌++◌, ◌∙◌, ℕ, true, List, [], ◌∷◌, ap}
use Rattle.std.proofs.Common.{arith, drop, fold, get_or, inl, inr, subst, take, length, nat_lt}
use Rattle.std.proofs.Common.{refl, sym, length-set, ◌^◌, get_or-set_other, get_or-set_same, All}
use Rattle.std.proofs.Common.{count_by, slice_index, length-drop, take-append-drop}
use Rattle.std.proofs.lemmas.{Bool.cases_Bool, Bool.Decides.nat_tests, List.Elements.All-head}
use Rattle.std.proofs.lemmas.{List.Elements.All-tail, List.Elements.All-set, List.Elements.All-take}
use Rattle.std.proofs.lemmas.{List.Elements.All-weaker, List.drop_more, Option.slice_get_within}
use Rattle.aeth_components.specs.ChannelStates.{IsChannelState}
use Rattle.aeth_components.specs.declared.channel_state.ChannelState.{ChannelState}
use Rattle.aeth_components.proofs.ChannelStateLemmas.{each-with_channel_state}
use Rattle.aeth_components.proofs.ChannelStateLemmas.{length-with_channel_state}
use Rattle.aeth_running.specs.Network.{accepted_with, gone_with, outside_with, taking_with}
use Rattle.aeth_running.specs.Network.{until_with}
use Rattle.aeth_stimuli.specs.Stimuli.{Offer, Take, is_over}
use Rattle.aeth_schedule.specs.declared.session_start.SessionStart.{SessionStart}
use Rattle.aeth_trace.specs.Channels.{channel_number}
use Rattle.aeth_network.specs.Fits.{AreFit, HaveCounts, IsFit, is_accepted}
use Rattle.aeth_network.proofs.CountLemmas.{count-cons, count-weaker}
use Rattle.aeth_base.proofs.Lists.{count_by-yes}

module _ (words parts : ℕ) where
  -- A word that comes is accepted by its channel, or it is outside of all.
  pub AreFit-accepted : (t : ℕ) (untils : List ℕ) (offer : Offer) (coming : List Offer)
      (channel_states : List ChannelState) → offer.cycle ≡ t
      → AreFit words parts untils (offer ∷ coming) channel_states
      → AreFit words parts untils coming (accepted_with t untils channel_states offer)
  AreFit-accepted t untils offer coming channel_states now fit =
      let number = offer.number in
      elim (cases_Bool (nat_lt t (slice_index untils number))) [
        | inl accepts ↦ rw accepts
            (each-with_channel_state (IsFit words parts untils coming) number
            (λ channel_state. record channel_state { accepted = channel_state.accepted + 1 })
            channel_states
            (λ k channel_state at same.
            let is = fit k channel_state at in
            let sound = is.sound in
            let room = is.room in
            let own : is_accepted untils k offer ≡ true =
            rw (now, same) (grind (arith, nat_tests)) in
            let counts = count_by-yes (is_accepted untils k) offer coming own in
            record {
              sound = record {
                sender = sound.sender;
                receiver = sound.receiver;
                taken = sound.taken;
                landed = sound.landed;
                enqueued = omega arith;
                within = omega arith;
              };
              room = omega arith;
            })
            (λ k channel_state at apart.
            let is = fit k channel_state at in
            let room = is.room in
            let counts = count-cons (is_accepted untils k) offer coming in
            record { sound = is.sound; room = omega arith }))
        | inr refuses ↦ rw refuses (λ k channel_state at.
            let is = fit k channel_state at in
            let room = is.room in
            let counts = count-cons (is_accepted untils k) offer coming in
            record { sound = is.sound; room = omega arith })
      ]

  -- Each of some words is.
  pub AreFit-offered : (t : ℕ) (untils : List ℕ) (offers coming : List Offer)
      (channel_states : List ChannelState) → All (λ one. one.cycle ≡ t) offers
      → AreFit words parts untils (offers ++ coming) channel_states
      → AreFit words parts untils coming (fold (accepted_with t untils) channel_states offers)
  AreFit-offered t untils [] coming channel_states now fit = fit
  AreFit-offered t untils (offer ∷ offers) coming channel_states now fit =
      AreFit-offered t untils offers coming (accepted_with t untils channel_states offer)
      (All-tail (λ (one : Offer). one.cycle ≡ t) offer offers now)
      (AreFit-accepted t untils offer (offers ++ coming) channel_states
      (All-head (λ (one : Offer). one.cycle ≡ t) offer offers now) fit)

  -- A session goes that accepts no more than it has room for.
  pub record HasWay (coming : List Offer) (session_start : SessionStart) : Type 0 where
    pub sound : IsChannelState words parts session_start.channel_state
    pub none : session_start.channel_state.accepted ≡ 0
    pub room : session_start.channel_state.first
        + count_by (λ offer. is_over offer.number session_start
        && nat_lt offer.cycle session_start.until) coming
        ≤ words

  pub AreFit-gone : (untils : List ℕ) (coming : List Offer) (channel_states : List ChannelState)
      (session_start : SessionStart)
      → length untils ≡ length channel_states → HasWay coming session_start
      → AreFit words parts untils coming channel_states
      → AreFit words parts (until_with untils session_start) coming
      (gone_with channel_states session_start)
  AreFit-gone untils coming channel_states session_start size way fit =
      let number = channel_number session_start.channel in
      let now = until_with untils session_start in
      let none = way.none in
      let sound = way.sound in
      each-with_channel_state (IsFit words parts now coming) number
      (λ channel_state. record session_start.channel_state { pull = channel_state.pull })
      channel_states
      (λ k channel_state at same.
      let within = slice_get_within channel_states k channel_state at in
      let inside : number < length untils = omega arith in
      let value : slice_index now k ≡ session_start.until =
      rw same (get_or-set_same untils number session_start.until 0 inside) in
      let fewer = count-weaker (is_accepted now k)
      (λ offer. is_over offer.number session_start && nat_lt offer.cycle session_start.until) coming
      (λ offer accepts. grind (arith, nat_tests, value)) in
      let room = way.room in
      record {
        sound = record {
          sender = sound.sender;
          receiver = sound.receiver;
          taken = sound.taken;
          landed = sound.landed;
          enqueued = sound.enqueued;
          within = sound.within;
        };
        room = omega arith;
      })
      (λ k channel_state at apart.
      let is = fit k channel_state at in
      let room = is.room in
      let value : slice_index now k ≡ slice_index untils k =
      get_or-set_other untils number k session_start.until 0 apart in
      let fewer = count-weaker (is_accepted now k) (is_accepted untils k) coming
      (λ offer accepts. grind (arith, nat_tests, value)) in
      record { sound = is.sound; room = omega arith })

  pub AreFit-all_gone : (untils : List ℕ) (coming : List Offer) (channel_states : List ChannelState)
      (session_starts : List SessionStart) → length untils ≡ length channel_states
      → All (HasWay coming) session_starts
      → AreFit words parts untils coming channel_states
      → AreFit words parts (fold until_with untils session_starts) coming
      (fold gone_with channel_states session_starts)
  AreFit-all_gone untils coming channel_states [] size ways fit = fit
  AreFit-all_gone untils coming channel_states (session_start ∷ session_starts) size ways fit =
      AreFit-all_gone (until_with untils session_start) coming
      (gone_with channel_states session_start) session_starts
      (length-set untils (channel_number session_start.channel) session_start.until ∙ size
      ∙ sym (length-with_channel_state (channel_number session_start.channel)
      (λ channel_state. record session_start.channel_state { pull = channel_state.pull })
      channel_states))
      (All-tail (HasWay coming) session_start session_starts ways)
      (AreFit-gone untils coming channel_states session_start size
      (All-head (HasWay coming) session_start session_starts ways) fit)

  -- A receiver takes otherwise.
  pub AreFit-taking : (untils : List ℕ) (coming : List Offer) (takes : List Take)
      (channel_states : List ChannelState) → AreFit words parts untils coming channel_states
      → AreFit words parts untils coming (fold taking_with channel_states takes)
  AreFit-taking untils coming [] channel_states fit = fit
  AreFit-taking untils coming (take ∷ takes) channel_states fit =
      AreFit-taking untils coming takes (taking_with channel_states take)
      (each-with_channel_state (IsFit words parts untils coming) take.number
      (λ channel_state. record channel_state { pull = take.pull }) channel_states
      (λ k channel_state at same.
      let is = fit k channel_state at in
      let sound = is.sound in
      record {
        sound = record {
          sender = sound.sender;
          receiver = sound.receiver;
          taken = sound.taken;
          landed = sound.landed;
          enqueued = sound.enqueued;
          within = sound.within;
        };
        room = is.room;
      })
      (λ k channel_state at apart. fit k channel_state at))

-- A word that is outside of all is counted.
pub HaveCounts-outside : (t : ℕ) (untils : List ℕ) (offer : Offer) (coming : List Offer)
    (outside : List ℕ) → offer.number < length outside → HaveCounts (offer ∷ coming) outside
    → HaveCounts coming (outside_with t untils outside offer)
HaveCounts-outside t untils offer coming outside within counts =
    let fewer : HaveCounts coming outside =
    All-weaker (λ n. n + length (offer ∷ coming) < 2 ^ 32) (λ n. n + length coming < 2 ^ 32)
    (λ n few. omega arith) outside counts in
    elim (cases_Bool (nat_lt t (slice_index untils offer.number))) [
      | inl accepts ↦ rw accepts fewer
      | inr refuses ↦ rw refuses
          (All-set (λ n. n + length coming < 2 ^ 32) outside offer.number
          (slice_index outside offer.number + 1)
          (let few : slice_index outside offer.number + length (offer ∷ coming) < 2 ^ 32 =
          counts offer.number 0 within in
          omega arith) fewer)
    ]

pub length-outside : (t : ℕ) (untils : List ℕ) (outside : List ℕ) (offer : Offer)
    → length (outside_with t untils outside offer) ≡ length outside
length-outside t untils outside offer =
    elim (cases_Bool (nat_lt t (slice_index untils offer.number))) [
      | inl accepts ↦ rw accepts refl
      | inr refuses ↦ rw refuses
          (length-set outside offer.number (slice_index outside offer.number + 1))
    ]

pub HaveCounts-offered : (t : ℕ) (untils : List ℕ) (offers coming : List Offer)
    (outside : List ℕ) → All (λ one. one.number < length outside) offers
    → HaveCounts (offers ++ coming) outside
    → HaveCounts coming (fold (outside_with t untils) outside offers)
HaveCounts-offered t untils [] coming outside within counts = counts
HaveCounts-offered t untils (offer ∷ offers) coming outside within counts =
    let size = length-outside t untils outside offer in
    HaveCounts-offered t untils offers coming (outside_with t untils outside offer)
    (rw size (All-tail (λ (one : Offer). one.number < length outside) offer offers within))
    (HaveCounts-outside t untils offer (offers ++ coming) outside
    (All-head (λ (one : Offer). one.number < length outside) offer offers within) counts)

-- The next of some words that are offered in a cycle has room, once those before it are offered.
pub AreFit-next : (words parts t : ℕ) (untils : List ℕ) (offers : List Offer)
    (channel_states now : List ChannelState) (i : ℕ) (offer : Offer)
    → All (λ one. one.cycle ≡ t) offers
    → i < length offers → offer ≡ get_or offers i offer
    → AreFit words parts untils offers channel_states
    → now ≡ fold (accepted_with t untils) channel_states (take i offers)
    → AreFit words parts untils (offer ∷ []) now
AreFit-next words parts t untils offers channel_states now i offer in_cycle within is fit so_far =
    let split : AreFit words parts untils (take i offers ++ drop i offers) channel_states =
    subst (λ (list : List Offer). AreFit words parts untils list channel_states)
    (sym (take-append-drop i offers)) fit in
    let rest : AreFit words parts untils (drop i offers) now =
    subst (AreFit words parts untils (drop i offers)) (sym so_far)
    (AreFit-offered words parts t untils (take i offers) (drop i offers) channel_states
    (All-take (λ (one : Offer). one.cycle ≡ t) i offers in_cycle) split) in
    let next : drop i offers ≡ offer ∷ drop (i + 1) offers =
    drop_more offers i offer within ∙ ap (λ (one : Offer). one ∷ drop (i + 1) offers) (sym is) in
    let all : AreFit words parts untils (offer ∷ drop (i + 1) offers) now =
    subst (λ (list : List Offer). AreFit words parts untils list now) next rest in
    λ k channel_state at.
    let one = all k channel_state at in
    let room = one.room in
    let some = count-cons (is_accepted untils k) offer [] in
    let more = count-cons (is_accepted untils k) offer (drop (i + 1) offers) in
    record { sound = one.sound; room = omega arith }

-- It can be counted.
pub HaveCounts-next : (t : ℕ) (untils : List ℕ) (offers : List Offer) (outside now : List ℕ) (i : ℕ)
    (offer : Offer) → All (λ one. one.number < length outside) offers → i < length offers
    → offer ≡ get_or offers i offer → HaveCounts offers outside
    → now ≡ fold (outside_with t untils) outside (take i offers) → HaveCounts (offer ∷ []) now
HaveCounts-next t untils offers outside now i offer known within is counts so_far =
    let split : HaveCounts (take i offers ++ drop i offers) outside =
    subst (λ (list : List Offer). HaveCounts list outside) (sym (take-append-drop i offers))
    counts in
    let rest : HaveCounts (drop i offers) now =
    subst (HaveCounts (drop i offers)) (sym so_far)
    (HaveCounts-offered t untils (take i offers) (drop i offers) outside
    (All-take (λ (one : Offer). one.number < length outside) i offers known) split) in
    let left = length-drop i offers in
    All-weaker (λ n. n + length (drop i offers) < 2 ^ 32)
    (λ n. n + length (offer ∷ []) < 2 ^ 32) (λ n few. omega arith) now rest
