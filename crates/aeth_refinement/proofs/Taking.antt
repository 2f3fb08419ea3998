-- Taking, channel by channel, is that of the law.
use Rattle.std.proofs.Common.{◌≡◌, ◌≤◌, ◌<◌, ◌∙◌, ℕ, ◌+◌, ◌-◌, min, sym, ap, subst, arith, inl, inr}
use Rattle.std.proofs.Common.{Bool, cond, List, Option, Some, length, map, slice_get, lt-ltb}
use Rattle.aeth_clocked.specs.declared.flit.Flit.{Flit}
use Rattle.aeth_ni.specs.Queue.{QueueState}
use Rattle.aeth_components.specs.{Alone.Done, Wirings.wiring_of, Laws.TakesAlone, Phases.Moment}
use Rattle.aeth_components.specs.{Phases.asked_of, Phases.in_turn, Phases.pulled, Queues.dequeued}
use Rattle.aeth_components.specs.{Queues.dequeues, Switching.entry_of, View.queue_of as queue_in}
use Rattle.aeth_components.specs.{declared.channel_state.ChannelState.ChannelState}
use Rattle.aeth_server.specs.PrivateServer.{landed, pull_at, taken}
use Rattle.aeth_invariant.proofs.{Owning.going-back, Unique.known-back}
use Rattle.aeth_invariant.specs.{WellRouted.AreWellRouted, Components.Net, Components.queue_of}
use Rattle.aeth_invariant.specs.{Cycle.Took, RoutedSessions.RoutedSessions}
use Rattle.aeth_invariant.specs.{RoutedSessions.IsOpenSession, RoutedSessions.IsSameQueue}
use Rattle.aeth_invariant.specs.{RoutedSessions.server_at}
use Rattle.aeth_refinement.proofs.Dequeuing.{dequeued-few, dequeued-kept, taken-dequeued}
use Rattle.aeth_refinement.proofs.Kept.{entries_in, entries_in-changed, kept-taking}
use Rattle.aeth_refinement.proofs.OneQueue.{entry_of-same}
use Rattle.aeth_refinement.proofs.Refilling.{same-queue, still-open}
use Rattle.aeth_refinement.proofs.Serving.{IsNone, alone-none, alone-receiver, at-end}
use Rattle.aeth_refinement.proofs.Serving.{found-or-none, has-queue, opened, user-of, uses}
use Rattle.aeth_refinement.specs.{WiredFor.IsEndOf, WiredFor.IsWiredFor, Served.AreServed}
use Rattle.aeth_refinement.specs.{Served.HasChannelState, Served.IsServed, View.net_of}

module _ (sessions : RoutedSessions) (ok : AreWellRouted sessions) (channel : ℕ → ℕ)
    (words : List ℕ)
    (t lands takes : ℕ) (enqueued : ℕ → ℕ) (moment : Moment) (wires : List (Option Flit))
    (count : ℕ)
    (wired_for : IsWiredFor sessions (map wiring_of moment.parts) count)
    (served : AreServed sessions channel words t lands takes enqueued moment.channel_states)
    (old : Net) (entries : (n x : ℕ) → old.entry n x ≡ entry_of moment.parts n x)
    (queues : (c : ℕ) → c < sessions.count → queue_of sessions old c
    ≡ queue_in moment.parts (sessions.routed_session c).ni (sessions.routed_session c).queue)
    (few : (c : ℕ) → c < sessions.count → IsOpenSession sessions c t
    → length (queue_of sessions old c).received
    ≤ landed (server_at sessions (sessions.opposite c)) lands
    - taken (server_at sessions (sessions.opposite c)) takes)
    (alone : TakesAlone t moment) where
  abbrev drained : Moment
  drained = in_turn (pulled t) moment

  abbrev new : Net
  new = net_of enqueued drained.parts wires

  -- The channel whose words land at a session's queue, in its turn: that of the opposite session.
  record Dequeues (c : ℕ) : Type 0 where
    channel_state : ChannelState
    at : slice_get moment.channel_states (channel (sessions.opposite c)) ≡ Some channel_state
    serves : IsServed sessions words (sessions.opposite c) t (enqueued (sessions.opposite c)) lands
        takes channel_state
    end : IsEndOf sessions c channel_state.receiver
    done : Done (λ s. s.receiver) (λ s. dequeued (asked_of s)) (λ s. dequeues (asked_of s))
        (λ s n. record s { taken = s.taken + n }) moment drained (channel (sessions.opposite c))
        channel_state

  dequeues-of : (c : ℕ) → c < sessions.count → IsOpenSession sessions c t → Dequeues c
  dequeues-of c h going =
      let d = sessions.opposite c in
      let g = known-back sessions ok c h in
      let has = served.own d g (going-back sessions ok c t h going) in
      let channel_state = has.channel_state in
      let of = has.served.of in
      let back = (ok.answered c h).back in
      let end : IsEndOf sessions c channel_state.receiver =
      subst (λ n. IsEndOf sessions n channel_state.receiver) back of.receiver in
      record {
        channel_state = channel_state;
        at = has.at;
        serves = has.served;
        end = end;
        done = alone.own (channel d) channel_state has.at
            (opened sessions ok words d t channel_state of (going-back sessions ok c t h going))
            (has-queue sessions ok (map wiring_of moment.parts) c channel_state.receiver
            (wired_for.session c h) end)
            (alone-receiver sessions ok channel words t lands takes enqueued moment.channel_states
            served c
            channel_state.receiver.ni.0 channel_state.receiver.queue h going end.ni end.queue);
      }

  -- Its queue, in its turn.
  dequeued-is : (c : ℕ) → c < sessions.count → (f : Dequeues c)
      → queue_of sessions new c ≡ dequeued (asked_of f.channel_state) (queue_of sessions old c)
  dequeued-is c h f =
      sym (at-end sessions ok drained.parts c f.channel_state.receiver f.end) ∙ f.done.queue_is
      ∙ ap (dequeued (asked_of f.channel_state))
      (at-end sessions ok moment.parts c f.channel_state.receiver f.end ∙ sym (queues c h))

  pull-going : (d : ℕ) → IsOpenSession sessions d t
      → pull_at (server_at sessions d) t ≡ (server_at sessions d).pull t
  pull-going d going =
      ap (λ (b : Bool). cond b ((server_at sessions d).pull t) 0)
      (lt-ltb t (server_at sessions d).finish going.unfinished)

  -- How many are asked for.
  asked-is : (c : ℕ) → c < sessions.count → IsOpenSession sessions c t → (f : Dequeues c)
      → let server = server_at sessions (sessions.opposite c) in
      asked_of f.channel_state ≡ min (pull_at server t) (landed server lands - taken server takes)
  asked-is c h going f =
      let pull = pull-going (sessions.opposite c) (going-back sessions ok c t h going) in
      let pulls = f.serves.fed.pull in
      let lands_is = f.serves.counted.landed_is in
      let takes_is = f.serves.counted.taken_is in
      omega (arith, pull, pulls, lands_is, takes_is)

  -- Where no session in use has a queue, it stays.
  nobody : (c : ℕ) → c < sessions.count
      → ((d : ℕ) → d < sessions.count → IsOpenSession sessions d t → IsSameQueue sessions d c → ⊥)
      → IsNone (uses (λ s. s.receiver) t (sessions.routed_session c).ni
      (sessions.routed_session c).queue) moment.channel_states
  nobody c h none number channel_state at passes =
      let user = user-of sessions ok channel words t lands takes enqueued moment.channel_states
      served
      (λ s. s.receiver) (sessions.routed_session c).ni (sessions.routed_session c).queue
      (record { number = number; channel_state = channel_state; at = at; passes = passes }) in
      let end = user.of.serves.of.receiver in
      let d = user.of.session in
      none (sessions.opposite d) (known-back sessions ok d user.of.known)
      (going-back sessions ok d t user.of.known user.of.going) (record {
        ni = sym end.ni ∙ sym user.ni_is;
        queue = sym end.queue ∙ sym user.queue_is;
      })

  stays : (c : ℕ) → c < sessions.count
      → IsNone (uses (λ s. s.receiver) t (sessions.routed_session c).ni
      (sessions.routed_session c).queue) moment.channel_states
      → queue_of sessions new c ≡ queue_of sessions old c
  stays c h none =
      (alone.other (sessions.routed_session c).ni (sessions.routed_session c).queue
      (alone-none (λ s. s.receiver) t (sessions.routed_session c).ni
      (sessions.routed_session c).queue
      (length moment.channel_states) moment.channel_states none)).queue_is
      ∙ sym (queues c h)

  -- All of it but what was received and what is owed stays in any case.
  abbrev keeping : QueueState → QueueState → QueueState
  keeping before q = record before { received = q.received; owed = q.owed }

  keeps : (c : ℕ) → c < sessions.count
      → queue_of sessions new c ≡ keeping (queue_of sessions old c) (queue_of sessions new c)
  keeps c h =
      let test = uses (λ s. s.receiver) t (sessions.routed_session c).ni
      (sessions.routed_session c).queue in
      elim (found-or-none test moment.channel_states) [
        | inl found ↦
            let user = user-of sessions ok channel words t lands takes enqueued
            moment.channel_states served
            (λ s. s.receiver) (sessions.routed_session c).ni (sessions.routed_session c).queue found
            in
            let e = user.of.session in
            let d = sessions.opposite e in
            let g = known-back sessions ok e user.of.known in
            let end = user.of.serves.of.receiver in
            let same : IsSameQueue sessions d c = record {
              ni = sym end.ni ∙ sym user.ni_is;
              queue = sym end.queue ∙ sym user.queue_is;
            } in
            let f = dequeues-of d g (going-back sessions ok e t user.of.known user.of.going) in
            let is : queue_of sessions new c
            ≡ dequeued (asked_of f.channel_state) (queue_of sessions old c) =
            sym (same-queue sessions drained.parts d c same)
            ∙ dequeued-is d g f
            ∙ ap (dequeued (asked_of f.channel_state))
            (queues d g ∙ same-queue sessions moment.parts d c same ∙ sym (queues c h)) in
            is ∙ dequeued-kept (asked_of f.channel_state) (queue_of sessions old c)
            ∙ ap (keeping (queue_of sessions old c)) (sym is)
        | inr none ↦
            stays c h none ∙ ap (keeping (queue_of sessions old c)) (sym (stays c h none))
      ]

  pub took : Took sessions t old new
  took = record {
    takes = λ c h going.
        let f = dequeues-of c h going in
        let server = server_at sessions (sessions.opposite c) in
        dequeued-is c h f
        ∙ ap (λ n. dequeued n (queue_of sessions old c)) (asked-is c h going f)
        ∙ dequeued-few (pull_at server t) (landed server lands - taken server takes)
        (queue_of sessions old c) (few c h going)
        ∙ sym (taken-dequeued (pull_at server t) (queue_of sessions old c));
    rests = λ c h none. stays c h (nobody c h none);
    kept = keeps;
    entry = λ n x. entry_of-same drained.parts moment.parts
        (kept-taking entries_in entries_in-changed t moment) n x ∙ sym (entries n x);
  }

  -- Its channels are served still, where receivers take what private servers take.
  pub took-served : (after : ℕ) → ((c : ℕ) → c < sessions.count → IsOpenSession sessions c t
      → let server = server_at sessions (sessions.opposite c) in
      taken server after ≡ taken server takes
      + min (pull_at server t) (length (queue_of sessions old c).received))
      → AreServed sessions channel words t lands after enqueued drained.channel_states
  took-served after servers = record {
    own = λ d g going.
        let c = sessions.opposite d in
        let h = known-back sessions ok d g in
        let back = (ok.answered d g).back in
        let f = dequeues-of c h (going-back sessions ok d t g going) in
        let channel_state = f.channel_state in
        let serves = f.serves in
        let of = serves.of in
        let queue = queue_in moment.parts channel_state.receiver.ni.0 channel_state.receiver.queue
        in
        let n = dequeues (asked_of channel_state) queue in
        let server = server_at sessions (sessions.opposite c) in
        let size : length queue.received ≡ length (queue_of sessions old c).received =
        ap (λ (q : QueueState). length q.received)
        (at-end sessions ok moment.parts c channel_state.receiver f.end ∙ sym (queues c h)) in
        let asked = asked-is c h (going-back sessions ok d t g going) f in
        let most = few c h (going-back sessions ok d t g going) in
        let is = servers c h (going-back sessions ok d t g going) in
        let took_is = serves.counted.taken_is in
        let has : HasChannelState sessions words (channel (sessions.opposite c))
        (sessions.opposite c) t
        (enqueued (sessions.opposite c)) lands after drained.channel_states = record {
          channel_state = record channel_state { taken = channel_state.taken + n };
          at = f.done.counted_is;
          served = record {
            of = record {
              sender = of.sender;
              receiver = of.receiver;
              go = of.go;
              fin = of.fin;
              values = of.values;
            };
            counted = record {
              enqueued_is = serves.counted.enqueued_is;
              landed_is = serves.counted.landed_is;
              taken_is = omega (arith, size, asked, most, is, took_is);
            };
            fed = record { accepted = serves.fed.accepted; pull = serves.fed.pull };
          };
        } in
        subst (λ n. HasChannelState sessions words (channel n) n t (enqueued n) lands after
        drained.channel_states)
        back has;
    only = λ number channel_state at is.
        let was = still-open t (pulled t) moment alone.closed number channel_state at is in
        served.only number was.0 was.1 was.2;
  }
