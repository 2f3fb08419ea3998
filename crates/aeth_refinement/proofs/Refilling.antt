-- Refilling, channel by channel, is that of the law.
use Rattle.std.proofs.Common.{◌≡◌, ◌≤◌, ◌<◌, ◌∙◌, ℕ, ◌+◌, ◌-◌, min, refl, sym, ap, arith, inl, inr}
use Rattle.std.proofs.Common.{Bool, true, false, cond, ltb, leb, ◌&&◌, List, ◌++◌, Option, Some}
use Rattle.std.proofs.Common.{get_or, length, map, take, drop, slice_get, le-leb, leb-true, lt-ltb}
use Rattle.std.proofs.Common.{ltb-true, length-take}
use Rattle.std.proofs.lemmas.Bool.{and_from, and_parts, both_ways, cases_Bool, cases_lt}
use Rattle.std.proofs.lemmas.List.{take_min}
use Rattle.std.proofs.lemmas.Option.{same_Some, slice_get-get_or, slice_get_within}
use Rattle.std.specs.List.{range_with_len}
use Rattle.aeth_clocked.specs.declared.flit.Flit.{Flit}
use Rattle.aeth_ni.specs.{Limits.waiting_words, Queue.QueueState}
use Rattle.aeth_router.specs.declared.part.Part.{Part}
use Rattle.aeth_components.specs.{Alone.Done, Wirings.wiring_of, ChannelStates.is_open}
use Rattle.aeth_components.specs.{Laws.RefillsAlone, Phases.Moment, Phases.in_turn, Phases.left_of}
use Rattle.aeth_components.specs.{Phases.refilled, Queues.filled, Queues.fits}
use Rattle.aeth_components.specs.{View.queue_of as queue_in}
use Rattle.aeth_components.specs.{declared.channel_state.ChannelState.ChannelState}
use Rattle.aeth_components.proofs.SkipLemmas.{length-turns}
use Rattle.aeth_server.specs.PrivateServer.{arrived}
use Rattle.aeth_invariant.proofs.{Counts.arrived-most, Words.drop-words_from}
use Rattle.aeth_invariant.proofs.{Words.length-words_from, Words.same_words, Words.take-words_from}
use Rattle.aeth_invariant.specs.{WellRouted.AreWellRouted, Carried.words_from, Components.Net}
use Rattle.aeth_invariant.specs.{Components.queue_of, Cycle.Refilled, Cycle.enqueuing}
use Rattle.aeth_invariant.specs.{RoutedSessions.RoutedSessions, RoutedSessions.IsOpenSession}
use Rattle.aeth_invariant.specs.{RoutedSessions.IsSameQueue, RoutedSessions.flow_at}
use Rattle.aeth_invariant.specs.{RoutedSessions.server_at}
use Rattle.aeth_refinement.proofs.Kept.{entries_in, entries_in-changed, kept-refilling}
use Rattle.aeth_refinement.proofs.OneQueue.{entry_of-same}
use Rattle.aeth_refinement.proofs.Serving.{IsNone, alone-none, alone-sender, at-end, found-or-none}
use Rattle.aeth_refinement.proofs.Serving.{has-queue, opened, user-of, uses}
use Rattle.aeth_refinement.specs.{WiredFor.IsWiredFor, Served.AreServed, Served.IsServed}
use Rattle.aeth_refinement.specs.{Served.enqueued_after, View.net_of}

-- Values that stand among words.
pub within-values : (words values : List ℕ) (first h k : ℕ)
    → words_from words first (length values) ≡ values → h + k ≤ length values
    → words_from words (first + h) k ≡ words_from values h k
within-values words values first h k is within =
    sym (ap (λ (vs : List ℕ). take k (drop h vs)) (sym is)
    ∙ ap (take k) (drop-words_from h words first (length values) (first + h) (length values - h)
    refl refl (omega arith))
    ∙ take-words_from k words (first + h) (length values - h) (omega arith))

-- The number of a list's first members.
pub length-few : (xs : List ℕ) (room : ℕ)
    → length (take (min room (length xs)) xs) ≡ min room (length xs)
length-few xs room = let size = length-take (min room (length xs)) xs in omega arith

-- Two sessions of one queue see it alike.
pub same-queue : (sessions : RoutedSessions) (parts : List Part) (d c : ℕ)
    → IsSameQueue sessions d c
    → queue_in parts (sessions.routed_session d).ni (sessions.routed_session d).queue
    ≡ queue_in parts (sessions.routed_session c).ni (sessions.routed_session c).queue
same-queue sessions parts d c same =
    ap (λ n. queue_in parts n (sessions.routed_session d).queue) same.ni
    ∙ ap (λ n. queue_in parts (sessions.routed_session c).ni n) same.queue

-- What is open behind turns was open before, where those that are closed stay.
pub still-open : (cycle : ℕ) (turn : List Part → ChannelState → List Part × ChannelState)
    (moment : Moment)
    → ((number : ℕ) (channel_state : ChannelState)
    → slice_get moment.channel_states number ≡ Some channel_state
    → is_open channel_state cycle ≡ false
    → slice_get (in_turn turn moment).channel_states number ≡ Some channel_state)
    → (number : ℕ) (channel_state : ChannelState)
    → slice_get (in_turn turn moment).channel_states number ≡ Some channel_state
    → is_open channel_state cycle ≡ true
    → (before : ChannelState) × (slice_get moment.channel_states number ≡ Some before)
    × (is_open before cycle ≡ true)
still-open cycle turn moment closed number channel_state at is =
    let size = length-turns turn (range_with_len 0 (length moment.channel_states)) moment in
    let before = get_or moment.channel_states number channel_state in
    elim (cases_lt number (length moment.channel_states)) [
      | inl within ↦
          let there = slice_get-get_or moment.channel_states number channel_state within in
          elim (cases_Bool (is_open before cycle)) [
            | inl was ↦ (before, there, was)
            | inr not ↦
                let same : before ≡ channel_state =
                same_Some before channel_state (sym (closed number before there not) ∙ at) in
                absurd (both_ways (is_open before cycle)
                not (ap (λ (s : ChannelState). is_open s cycle) same ∙ is))
          ]
      | inr past ↦
          let within =
          slice_get_within (in_turn turn moment).channel_states number channel_state at in
          absurd (omega (arith, within, past, size))
    ]

-- How many words of a session were enqueued, where it is in use, and where it isn't.
pub enqueued-going : (sessions : RoutedSessions) (net : Net) (t c : ℕ) → IsOpenSession sessions c t
    → enqueued_after sessions net t c ≡ net.enqueued c + enqueuing sessions net t c
enqueued-going sessions net t c going =
    ap (λ (b : Bool). cond b (net.enqueued c + enqueuing sessions net t c) (net.enqueued c))
    (and_from (leb (server_at sessions c).go t) (ltb t (server_at sessions c).finish)
    (le-leb (server_at sessions c).go t going.goes)
    (lt-ltb t (server_at sessions c).finish going.unfinished))

pub enqueued-rested : (sessions : RoutedSessions) (net : Net) (t c : ℕ)
    → (IsOpenSession sessions c t → ⊥)
    → enqueued_after sessions net t c ≡ net.enqueued c
enqueued-rested sessions net t c not =
    let go = (server_at sessions c).go in
    let finish = (server_at sessions c).finish in
    elim (cases_Bool (leb go t && ltb t finish)) [
      | inl is ↦
          let both = and_parts (leb go t) (ltb t finish) is in
          absurd (not (record {
            goes = leb-true go t both.0;
            unfinished = ltb-true t finish both.1;
          }))
      | inr rests ↦
          ap (λ (b : Bool). cond b (net.enqueued c + enqueuing sessions net t c) (net.enqueued c))
          rests
    ]

module _ (sessions : RoutedSessions) (ok : AreWellRouted sessions) (channel : ℕ → ℕ)
    (words : List ℕ)
    (t lands takes : ℕ) (enqueued : ℕ → ℕ) (moment : Moment) (wires : List (Option Flit))
    (count : ℕ)
    (wired_for : IsWiredFor sessions (map wiring_of moment.parts) count)
    (served : AreServed sessions channel words t lands takes enqueued moment.channel_states)
    (low : (c : ℕ) → c < sessions.count → IsOpenSession sessions c t
    → enqueued c ≤ arrived (server_at sessions c) (t + 1))
    (alone : RefillsAlone words t moment) where
  abbrev old : Net
  old = net_of enqueued moment.parts wires

  abbrev ready : Moment
  ready = in_turn (refilled words t) moment

  abbrev new : Net
  new = net_of (enqueued_after sessions old t) ready.parts wires

  -- A session's channel in its turn.
  record Fills (c : ℕ) : Type 0 where
    channel_state : ChannelState
    at : slice_get moment.channel_states (channel c) ≡ Some channel_state
    serves : IsServed sessions words c t (enqueued c) lands takes channel_state
    done : Done (λ s. s.sender) (λ s. filled (left_of words s)) (λ s. fits (left_of words s))
        (λ s n. record s { enqueued = s.enqueued + n }) moment ready (channel c) channel_state
    left : left_of words channel_state ≡ words_from (flow_at sessions c).values (enqueued c)
        (arrived (server_at sessions c) (t + 1) - enqueued c)
    size : length (left_of words channel_state)
        ≡ arrived (server_at sessions c) (t + 1) - enqueued c

  fills-of : (c : ℕ) → c < sessions.count → IsOpenSession sessions c t → Fills c
  fills-of c h going =
      let has = served.own c h going in
      let channel_state = has.channel_state in
      let of = has.served.of in
      let values = (flow_at sessions c).values in
      let a = arrived (server_at sessions c) (t + 1) in
      let few = low c h going in
      let most = arrived-most (server_at sessions c) (t + 1) in
      let given = (ok.given c h).values in
      let accepts = has.served.fed.accepted in
      let enqueues = has.served.counted.enqueued_is in
      let count_is : (channel_state.first + channel_state.accepted)
      - (channel_state.first + channel_state.enqueued) ≡ a - enqueued c =
      omega (arith, accepts, enqueues) in
      let within : enqueued c + (a - enqueued c) ≤ length values =
      omega (arith, few, most, given) in
      let left : left_of words channel_state ≡ words_from values (enqueued c) (a - enqueued c) =
      same_words words (channel_state.first + channel_state.enqueued)
      ((channel_state.first + channel_state.accepted)
      - (channel_state.first + channel_state.enqueued)) (channel_state.first + enqueued c)
      (a - enqueued c) (ap (λ n. channel_state.first + n) enqueues) count_is
      ∙ within-values words values channel_state.first (enqueued c) (a - enqueued c) of.values
      within in
      record {
        channel_state = channel_state;
        at = has.at;
        serves = has.served;
        done = alone.own (channel c) channel_state has.at
            (opened sessions ok words c t channel_state of going)
            (has-queue sessions ok (map wiring_of moment.parts) c channel_state.sender
            (wired_for.session c h) of.sender)
            (alone-sender sessions ok channel words t lands takes enqueued moment.channel_states
            served c
            channel_state.sender.ni.0 channel_state.sender.queue h going of.sender.ni
            of.sender.queue);
        left = left;
        size = ap length left ∙ length-words_from values (enqueued c) (a - enqueued c) within;
      }

  -- Its queue has the words that fit.
  filled-is : (c : ℕ) → c < sessions.count → (going : IsOpenSession sessions c t) → (f : Fills c)
      → queue_of sessions new c ≡ filled (left_of words f.channel_state) (queue_of sessions old c)
  filled-is c h going f =
      let end = f.serves.of.sender in
      sym (at-end sessions ok ready.parts c f.channel_state.sender end) ∙ f.done.queue_is
      ∙ ap (filled (left_of words f.channel_state))
      (at-end sessions ok moment.parts c f.channel_state.sender end)

  enqueuing-is : (c : ℕ) (f : Fills c)
      → min (waiting_words - length (queue_of sessions old c).waiting)
      (length (left_of words f.channel_state))
      ≡ enqueuing sessions old t c
  enqueuing-is c f =
      ap (λ n. min (waiting_words - length (queue_of sessions old c).waiting) n) f.size

  -- Where no session in use has a queue, it stays.
  nobody : (c : ℕ)
      → ((d : ℕ) → d < sessions.count → IsOpenSession sessions d t → IsSameQueue sessions d c → ⊥)
      → IsNone (uses (λ s. s.sender) t (sessions.routed_session c).ni
      (sessions.routed_session c).queue) moment.channel_states
  nobody c none number channel_state at passes =
      let user = user-of sessions ok channel words t lands takes enqueued moment.channel_states
      served
      (λ s. s.sender) (sessions.routed_session c).ni (sessions.routed_session c).queue
      (record { number = number; channel_state = channel_state; at = at; passes = passes }) in
      let end = user.of.serves.of.sender in
      none user.of.session user.of.known user.of.going (record {
        ni = sym end.ni ∙ sym user.ni_is;
        queue = sym end.queue ∙ sym user.queue_is;
      })

  stays : (c : ℕ)
      → IsNone (uses (λ s. s.sender) t (sessions.routed_session c).ni
      (sessions.routed_session c).queue) moment.channel_states
      → queue_of sessions new c ≡ queue_of sessions old c
  stays c none =
      (alone.other (sessions.routed_session c).ni (sessions.routed_session c).queue
      (alone-none (λ s. s.sender) t (sessions.routed_session c).ni (sessions.routed_session c).queue
      (length moment.channel_states) moment.channel_states none)).queue_is

  -- All of it but the words that wait stays in any case.
  keeps : (c : ℕ) → queue_of sessions new c
      ≡ record (queue_of sessions old c) { waiting = (queue_of sessions new c).waiting }
  keeps c =
      let test = uses (λ s. s.sender) t (sessions.routed_session c).ni
      (sessions.routed_session c).queue in
      elim (found-or-none test moment.channel_states) [
        | inl found ↦
            let user = user-of sessions ok channel words t lands takes enqueued
            moment.channel_states served
            (λ s. s.sender) (sessions.routed_session c).ni (sessions.routed_session c).queue found
            in
            let d = user.of.session in
            let end = user.of.serves.of.sender in
            let same : IsSameQueue sessions d c = record {
              ni = sym end.ni ∙ sym user.ni_is;
              queue = sym end.queue ∙ sym user.queue_is;
            } in
            let f = fills-of d user.of.known user.of.going in
            let is : queue_of sessions new c
            ≡ filled (left_of words f.channel_state) (queue_of sessions old c) =
            sym (same-queue sessions ready.parts d c same)
            ∙ filled-is d user.of.known user.of.going f
            ∙ ap (filled (left_of words f.channel_state))
            (same-queue sessions moment.parts d c same) in
            is ∙ ap (λ (q : QueueState). record (queue_of sessions old c) { waiting = q.waiting })
            (sym is)
        | inr none ↦
            stays c none
            ∙ ap (λ (q : QueueState). record (queue_of sessions old c) { waiting = q.waiting })
            (sym (stays c none))
      ]

  pub refills : Refilled sessions t old new
  refills = record {
    fills = λ c h going.
        let f = fills-of c h going in
        let values = (flow_at sessions c).values in
        let room = waiting_words - length (queue_of sessions old c).waiting in
        let left = left_of words f.channel_state in
        let some = f.size in
        ap (λ (q : QueueState). q.waiting) (filled-is c h going f)
        ∙ ap (λ (ws : List ℕ). (queue_of sessions old c).waiting ++ ws)
        (sym (take_min room left)
        ∙ ap (λ n. take n left) (enqueuing-is c f)
        ∙ ap (take (enqueuing sessions old t c)) f.left
        ∙ take-words_from (enqueuing sessions old t c) values (enqueued c)
        (arrived (server_at sessions c) (t + 1) - enqueued c) (omega arith));
    counts = λ c h going. enqueued-going sessions old t c going;
    rests = λ c h none. ap (λ (q : QueueState). q.waiting) (stays c (nobody c none));
    rested = λ c h early. enqueued-rested sessions old t c (λ (going : IsOpenSession sessions c t).
        let goes = going.goes in omega (arith, goes, early));
    kept = λ c h. keeps c;
    entry = entry_of-same ready.parts moment.parts
        (kept-refilling entries_in entries_in-changed words t moment);
    held = λ l. refl;
  }

  -- Its channels are served still.
  pub refills-served : AreServed sessions channel words t lands takes
      (enqueued_after sessions old t)
      ready.channel_states
  refills-served = record {
    own = λ c h going.
        let f = fills-of c h going in
        let channel_state = f.channel_state in
        let serves = f.serves in
        let queue = queue_in moment.parts channel_state.sender.ni.0 channel_state.sender.queue in
        let room = waiting_words - length queue.waiting in
        let end = at-end sessions ok moment.parts c channel_state.sender serves.of.sender in
        let logged : fits (left_of words channel_state) queue ≡ enqueuing sessions old t c =
        ap (fits (left_of words channel_state)) end
        ∙ sym (ap length (take_min (waiting_words - length (queue_of sessions old c).waiting)
        (left_of words channel_state)))
        ∙ length-few (left_of words channel_state)
        (waiting_words - length (queue_of sessions old c).waiting)
        ∙ enqueuing-is c f in
        let counted = serves.counted in
        let of = serves.of in
        record {
          channel_state =
              record channel_state {
                enqueued =
                    channel_state.enqueued + fits (left_of words channel_state) queue;
              };
          at = f.done.counted_is;
          served = record {
            of = record {
              sender = of.sender;
              receiver = of.receiver;
              go = of.go;
              fin = of.fin;
              values = of.values;
            };
            counted = record {
              enqueued_is =
                  ap (λ n. n + fits (left_of words channel_state) queue) counted.enqueued_is
                  ∙ ap (λ n. enqueued c + n) logged ∙ sym (enqueued-going sessions old t c going);
              landed_is = counted.landed_is;
              taken_is = counted.taken_is;
            };
            fed = record { accepted = serves.fed.accepted; pull = serves.fed.pull };
          };
        };
    only = λ number channel_state at is.
        let was = still-open t (refilled words t) moment alone.closed number channel_state at is in
        served.only number was.0 was.1 was.2;
  }
