-- The channels that are in use, and the queues of their sessions.
use Rattle.std.proofs.Common.{◌≡◌, ◌<◌, ◌∙◌, ◌⊎◌, ℕ, zero, suc, refl, sym, ap, subst, arith, inl}
use Rattle.std.proofs.Common.{inr, Bool, true, false, ltb, leb, ◌&&◌, List, [], ◌∷◌, Some}
use Rattle.std.proofs.Common.{slice_get, ◌==◌, eq-eqb, eqb-true, le-leb, lt-ltb}
use Rattle.std.proofs.lemmas.{Bool.and_from, Bool.and_parts, Bool.cases_Bool, Option.same_Some}
use Rattle.aeth_router.specs.declared.part.Part.{Part}
use Rattle.aeth_components.specs.{Alone.IsAlone, Wirings.Wiring, ChannelStates.is_open}
use Rattle.aeth_components.specs.{View.HasQueue, View.queue_of as queue_in}
use Rattle.aeth_components.specs.{declared.channel_state.ChannelEnd.ChannelEnd}
use Rattle.aeth_components.specs.{declared.channel_state.ChannelState.ChannelState}
use Rattle.aeth_invariant.proofs.{Owning.going-back, Owning.owns-going, Unique.known-back}
use Rattle.aeth_invariant.specs.WellRouted.{AreWellRouted}
use Rattle.aeth_invariant.specs.RoutedSessions.{RoutedSessions, IsOpenSession, IsSameQueue}
use Rattle.aeth_refinement.specs.WiredFor.{HasSession, IsEndOf}
use Rattle.aeth_refinement.specs.Served.{AreServed, IsChannelStateOf, IsServed}

-- Of a list some one passes a test, or none does.
pub record IsFound {X : Type 0} (test : X → Bool) (channel_states : List X) : Type 0 where
  pub number : ℕ
  pub channel_state : X
  pub at : slice_get channel_states number ≡ Some channel_state
  pub passes : test channel_state ≡ true

abbrev pub IsNone : {X : Type 0} → (X → Bool) → List X → Type 0
IsNone {X} test channel_states = (number : ℕ) (channel_state : X)
    → slice_get channel_states number ≡ Some channel_state
    → test channel_state ≡ true → ⊥

pub found-or-none : {X : Type 0} (test : X → Bool) (channel_states : List X)
    → IsFound test channel_states ⊎ IsNone test channel_states
found-or-none test [] = inr (λ number channel_state at passes. absurd (cc at))
found-or-none test (first ∷ channel_states) = elim (cases_Bool (test first)) [
  | inl is ↦ inl (record { number = 0; channel_state = first; at = refl; passes = is })
  | inr not ↦ elim (found-or-none test channel_states) [
    | inl found ↦ inl (record {
      number = suc found.number;
      channel_state = found.channel_state;
      at = found.at;
      passes = found.passes;
    })
    | inr none ↦
        let cases : IsNone test (first ∷ channel_states) = elim [
          | zero ↦ λ channel_state at passes.
              let is : true ≡ false =
              sym passes ∙ sym (ap test (same_Some first channel_state at)) ∙ not in
              absurd (cc is)
          | suc number ↦ λ channel_state at passes. none number channel_state at passes
        ] in
        inr cases
  ]
]

-- Whether an open channel uses a queue.
abbrev pub uses : (ChannelState → ChannelEnd) → ℕ → ℕ → ℕ → ChannelState → Bool
uses end_of t ni queue channel_state =
    is_open channel_state t
    && ((ni == (end_of channel_state).ni.0) && (queue == (end_of channel_state).queue))

-- Where none does, a queue is nobody's.
pub alone-none : (end_of : ChannelState → ChannelEnd) (t ni queue own : ℕ)
    (channel_states : List ChannelState)
    → IsNone (uses end_of t ni queue) channel_states
    → IsAlone (λ s. is_open s t) end_of channel_states own ni queue
alone-none end_of t ni queue own channel_states none i channel_state at opened there =
    absurd (none i channel_state at (and_from (is_open channel_state t) _ opened
    (and_from (ni == (end_of channel_state).ni.0) _ (eq-eqb ni (end_of channel_state).ni.0 there.0)
    (eq-eqb queue (end_of channel_state).queue there.1))))

module _ (sessions : RoutedSessions) (ok : AreWellRouted sessions) where
  -- The queue at an end of a session is the session's.
  pub at-end : (parts : List Part) (c : ℕ) (end : ChannelEnd) → IsEndOf sessions c end
      → queue_in parts end.ni.0 end.queue
      ≡ queue_in parts (sessions.routed_session c).ni (sessions.routed_session c).queue
  at-end parts c end is =
      ap (λ n. queue_in parts n end.queue) is.ni
      ∙ ap (λ n. queue_in parts (sessions.routed_session c).ni n) is.queue

  pub has-queue : (wirings : List Wiring) (c : ℕ) (end : ChannelEnd) → HasSession sessions wirings c
      → IsEndOf sessions c end → HasQueue wirings end
  has-queue wirings c end has is =
      let within = has.within in
      let queue = is.queue in
      record {
        number = has.number;
        leaving = has.leaving;
        entering = has.entering;
        slots = has.slots;
        queues = has.queues;
        face = ap (slice_get wirings) is.ni ∙ has.face;
        within = omega (arith, within, queue);
      }

  -- A channel is open in the cycles in which its session is in use.
  pub opened : (words : List ℕ) (c t : ℕ) (channel_state : ChannelState)
      → IsChannelStateOf sessions words c channel_state
      → IsOpenSession sessions c t → is_open channel_state t ≡ true
  opened words c t channel_state of going =
      let go = of.go in
      let fin = of.fin in
      let goes = going.goes in
      let unfinished = going.unfinished in
      and_from (leb channel_state.go t) (ltb t channel_state.fin)
      (le-leb channel_state.go t (omega (arith, go, goes)))
      (lt-ltb t channel_state.fin (omega (arith, fin, unfinished)))

  -- Sessions in use whose sending ends are one queue are one.
  pub one-session : (c d t : ℕ) → c < sessions.count → d < sessions.count
      → IsOpenSession sessions c t
      → IsOpenSession sessions d t → IsSameQueue sessions c d → c ≡ d
  one-session c d t h g going other same =
      (ok.apart c d h g).queue (suc t) (owns-going sessions ok c t h going)
      (owns-going sessions ok d t g other) same

  module _ (channel : ℕ → ℕ) (words : List ℕ) (t lands takes : ℕ) (enqueued : ℕ → ℕ)
      (channel_states : List ChannelState)
      (served : AreServed sessions channel words t lands takes enqueued channel_states) where
    -- An open channel with its session.
    pub record IsOpen (number : ℕ) (channel_state : ChannelState) : Type 0 where
      pub session : ℕ
      pub known : session < sessions.count
      pub going : IsOpenSession sessions session t
      pub place : channel session ≡ number
      pub serves : IsServed sessions words session t (enqueued session) lands takes channel_state

    pub open-of : (number : ℕ) (channel_state : ChannelState)
        → slice_get channel_states number ≡ Some channel_state
        → is_open channel_state t ≡ true → IsOpen number channel_state
    open-of number channel_state at is =
        let used = served.only number channel_state at is in
        let own = served.own used.session used.known used.going in
        let same : own.channel_state ≡ channel_state =
        same_Some own.channel_state channel_state
        (sym own.at ∙ ap (slice_get channel_states) used.place ∙ at) in
        record {
          session = used.session;
          known = used.known;
          going = used.going;
          place = used.place;
          serves = subst
              (IsServed sessions words used.session t (enqueued used.session) lands takes)
              same own.served;
        }

    -- Of the channels in use that of a session alone sends from the session's queue.
    pub alone-sender : (c ni queue : ℕ) → c < sessions.count → IsOpenSession sessions c t
        → ni ≡ (sessions.routed_session c).ni → queue ≡ (sessions.routed_session c).queue
        → IsAlone (λ s. is_open s t) (λ s. s.sender) channel_states (channel c) ni queue
    alone-sender c ni queue h going at_ni at_queue i channel_state at is there =
        let one = open-of i channel_state at is in
        let end = one.serves.of.sender in
        let same : IsSameQueue sessions one.session c = record {
          ni = sym end.ni ∙ sym there.0 ∙ at_ni;
          queue = sym end.queue ∙ sym there.1 ∙ at_queue;
        } in
        sym one.place
        ∙ ap channel (one-session one.session c t one.known h one.going going same)

    -- That of its opposite session alone receives there.
    pub alone-receiver : (c ni queue : ℕ) → c < sessions.count → IsOpenSession sessions c t
        → ni ≡ (sessions.routed_session c).ni → queue ≡ (sessions.routed_session c).queue
        → IsAlone (λ s. is_open s t) (λ s. s.receiver) channel_states
        (channel (sessions.opposite c)) ni queue
    alone-receiver c ni queue h going at_ni at_queue i channel_state at is there =
        let one = open-of i channel_state at is in
        let e = one.session in
        let end = one.serves.of.receiver in
        let same : IsSameQueue sessions (sessions.opposite e) c = record {
          ni = sym end.ni ∙ sym there.0 ∙ at_ni;
          queue = sym end.queue ∙ sym there.1 ∙ at_queue;
        } in
        let back = one-session (sessions.opposite e) c t (known-back sessions ok e one.known) h
        (going-back sessions ok e t one.known one.going) going same in
        sym one.place
        ∙ ap channel (sym (ok.answered e one.known).back ∙ ap sessions.opposite back)

    -- What an open channel that uses a queue tells of it.
    pub record IsUser (end_of : ChannelState → ChannelEnd) (ni queue : ℕ) : Type 0 where
      pub number : ℕ
      pub channel_state : ChannelState
      pub at : slice_get channel_states number ≡ Some channel_state
      pub opens : is_open channel_state t ≡ true
      pub ni_is : ni ≡ (end_of channel_state).ni.0
      pub queue_is : queue ≡ (end_of channel_state).queue
      pub of : IsOpen number channel_state

    pub user-of : (end_of : ChannelState → ChannelEnd) (ni queue : ℕ)
        → IsFound (uses end_of t ni queue) channel_states → IsUser end_of ni queue
    user-of end_of ni queue found =
        let channel_state = found.channel_state in
        let both = and_parts (is_open channel_state t) _ found.passes in
        let end = and_parts (ni == (end_of channel_state).ni.0)
        (queue == (end_of channel_state).queue) both.1 in
        record {
          number = found.number;
          channel_state = channel_state;
          at = found.at;
          opens = both.0;
          ni_is = eqb-true ni (end_of channel_state).ni.0 end.0;
          queue_is = eqb-true queue (end_of channel_state).queue end.1;
          of = open-of found.number channel_state found.at both.0;
        }
