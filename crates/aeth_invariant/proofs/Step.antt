-- Driving, taking and latching lead from the counts before a cycle to those after it.
use Rattle.std.proofs.Common.{◌≡◌, ◌≤◌, ◌<◌, ◌∙◌, ℕ, suc, ◌+◌, ◌-◌, ◌%◌, min, List, ◌++◌, length}
use Rattle.std.proofs.Common.{drop, Option, sym, ap, subst, arith, inl, inr}
use Rattle.aeth_clocked.specs.declared.flit.Flit.{Flit}
use Rattle.aeth_ni.specs.{Component.Arrival, Component.arrival_of, Limits.max_count}
use Rattle.aeth_ni.specs.{Queue.QueueState}
use Rattle.aeth_report.specs.Carries.{returns, sends}
use Rattle.aeth_server.specs.PrivateServer.{credited, landed, pull_at, returned, sent, taken}
use Rattle.aeth_server.proofs.PrivateServerLemmas.{credited-more, has-grown, in-order, sent-more}
use Rattle.aeth_server.proofs.PrivateServerLemmas.{taken-next}
use Rattle.aeth_server.proofs.SessionEnds.{idle-before}
use Rattle.aeth_invariant.specs.{WellRouted.AreWellRouted, Carried.Exact, Carried.words_from}
use Rattle.aeth_invariant.specs.{Cycle.Latched, Cycle.Took, Components.Net, Components.after}
use Rattle.aeth_invariant.specs.{Components.credits_for, Components.queue_of, Components.words_for}
use Rattle.aeth_invariant.specs.{RoutedSessions.RoutedSessions, RoutedSessions.IsOpenSession}
use Rattle.aeth_invariant.specs.{RoutedSessions.Owns, RoutedSessions.flow_at}
use Rattle.aeth_invariant.specs.{RoutedSessions.server_at, Standing.HasCounter, Standing.Stands}
use Rattle.aeth_invariant.proofs.{Counts.owed-most, Counts.returned-sent, Counts.room-next}
use Rattle.aeth_invariant.proofs.{Leaving.leaves, Landing.lands, Owning.early-alone}
use Rattle.aeth_invariant.proofs.{Owning.exact-same, Owning.going-or-early, Owning.landed-most}
use Rattle.aeth_invariant.proofs.{Owning.owns-back, Owning.received-length}
use Rattle.aeth_invariant.proofs.{Queues.brought_by-counter, Queues.brought_by-kept}
use Rattle.aeth_invariant.proofs.{Queues.brought_by-received, Queues.sent_from-kept}
use Rattle.aeth_invariant.proofs.{Takes.words_taken-is, Ready.Enough, Unique.known-back}
use Rattle.aeth_invariant.proofs.{Unique.paths-of, Unique.returns-step, Unique.sends-step}
use Rattle.aeth_invariant.proofs.{Words.drop-words_from, Words.length-words_from}
use Rattle.aeth_invariant.proofs.{Words.words_from-append}

-- What is owed behind the takes is a count: no more than the buffer.
owed-fits : (owed left more count gives gave given was now buffer : ℕ) → more ≡ count
    → left ≡ owed - gives → gives ≤ owed → gives ≡ given - gave → owed + gave ≡ was → gave ≤ given
    → now ≡ was + count → now ≤ buffer + given → buffer ≤ max_count → left + more ≤ max_count
owed-fits owed left more count gives gave given was now buffer same rest some step owes grows
    take least fits =
    omega arith

module _ (sessions : RoutedSessions) (ok : AreWellRouted sessions) (t : ℕ) (net pulled new : Net)
    (wires : ℕ → Option Flit) (at : Stands sessions (suc t) t net)
    (enough : Enough sessions ok t net)
    (took : Took sessions t (after sessions net t) pulled) (exact : Exact sessions t wires)
    (latched : Latched sessions wires pulled new)
    (enqueued : (c : ℕ) → c < sessions.count → t < (server_at sessions c).finish
    → new.enqueued c ≡ net.enqueued c) where
  -- A session's queue before the drive, behind it, behind the takes, and behind the latch; and
  -- what comes.
  abbrev first : ℕ → QueueState
  first c = queue_of sessions net c

  abbrev second : ℕ → QueueState
  second c = queue_of sessions (after sessions net t) c

  abbrev third : ℕ → QueueState
  third c = queue_of sessions pulled c

  abbrev last : ℕ → QueueState
  last c = queue_of sessions new c

  abbrev comes : ℕ → Option Arrival
  comes c = arrival_of (wires (sessions.entering (sessions.routed_session c).ni))

  abbrev number : ℕ → ℕ
  number c = (sessions.routed_session c).queue

  -- What stays in all of these.
  drive-keeps : (c : ℕ) → second c
      ≡ record (first c) {
        waiting = (second c).waiting;
        counter = (second c).counter;
        owed = (second c).owed;
      }
  drive-keeps c =
      sent_from-kept (net.entry (sessions.routed_session c).ni (t % sessions.size)) (number c)
      (first c)

  latch-keeps : (c : ℕ) → c < sessions.count → last c
      ≡ record (third c) { received = (last c).received; counter = (last c).counter }
  latch-keeps c h =
      let same = latched.queue c h in
      same ∙ brought_by-kept (comes c) (number c) (third c)
      ∙ ap (λ (q : QueueState). record (third c) { received = q.received; counter = q.counter })
      (sym same)

  route-stays : (c : ℕ) → c < sessions.count → (last c).route ≡ (first c).route
  route-stays c h =
      ap (λ (q : QueueState). q.route) (latch-keeps c h)
      ∙ ap (λ (q : QueueState). q.route) (took.kept c h)
      ∙ ap (λ (q : QueueState). q.route) (drive-keeps c)

  halted-stays : (c : ℕ) → c < sessions.count → (last c).halted ≡ (first c).halted
  halted-stays c h =
      ap (λ (q : QueueState). q.halted) (latch-keeps c h)
      ∙ ap (λ (q : QueueState). q.halted) (took.kept c h)
      ∙ ap (λ (q : QueueState). q.halted) (drive-keeps c)

  third-room : (c : ℕ) → c < sessions.count → (third c).room ≡ (first c).room
  third-room c h =
      ap (λ (q : QueueState). q.room) (took.kept c h)
      ∙ ap (λ (q : QueueState). q.room) (drive-keeps c)

  entry-stays : (n x : ℕ) → new.entry n x ≡ net.entry n x
  entry-stays n x = latched.entry n x ∙ took.entry n x

  -- What a session's private server takes is taken from the queue at which it lands, which is
  -- that of the opposite session.
  record Takes (c : ℕ) : Type 0 where
    count : ℕ
    received : (third c).received ≡ drop count (first c).received
    owed : (third c).owed ≡ (second c).owed + count
    few : count ≤ length (first c).received
    server : taken (server_at sessions (sessions.opposite c)) (suc t)
        ≡ taken (server_at sessions (sessions.opposite c)) t + count

  takes-going : (c : ℕ) → c < sessions.count → Owns sessions c (suc t) → IsOpenSession sessions c t
      → Takes c
  takes-going c h own going =
      let d = sessions.opposite c in
      let g = known-back sessions ok c h in
      let server = server_at sessions d in
      let paths = paths-of sessions ok d g in
      let pull = pull_at server t in
      let gone = leaves sessions ok t net at enough c h own in
      let same : (second c).received ≡ (first c).received =
      ap (λ (q : QueueState). q.received) (drive-keeps c) in
      let size : length (second c).received ≡ length (first c).received =
      ap (λ (ws : List ℕ). length ws) same in
      let some = received-length sessions ok (suc t) t net at c h own in
      let step : taken server (suc t) ≡ taken server t + min pull (length (first c).received) =
      taken-next server paths t
      ∙ ap (λ n. taken server t + min pull n) (sym some) in
      let owes : (second c).owed ≡ (first c).owed - returns (flow_at sessions c) t =
      ap (λ (q : QueueState). q.owed) gone.is in
      let gives = returns-step sessions ok c t h in
      let was = at.owed c h own in
      let more = credited-more server paths t (suc t) (omega arith) in
      let least = owed-most server paths (suc t) in
      let buffer = (ok.given d g).buffer in
      let few : (second c).owed + min pull (length (second c).received) ≤ max_count =
      owed-fits (first c).owed (second c).owed (min pull (length (second c).received))
      (min pull (length (first c).received)) (returns (flow_at sessions c) t) (credited server t)
      (credited server (suc t)) (taken server t) (taken server (suc t)) server.buffer
      (ap (λ n. min pull n) size) owes gone.credits gives was more step least buffer in
      let is = words_taken-is pull (second c) few in
      record {
        count = min pull (length (first c).received);
        received = ap (λ (q : QueueState). q.received) (took.takes c h going) ∙ is.received
            ∙ ap (λ n. drop (min pull n) (second c).received) size
            ∙ ap (λ (ws : List ℕ). drop (min pull (length (first c).received)) ws) same;
        owed = ap (λ (q : QueueState). q.owed) (took.takes c h going) ∙ is.owed
            ∙ ap (λ n. (second c).owed + min pull n) size;
        few = omega arith;
        server = step;
      }

  takes-early : (c : ℕ) → c < sessions.count → Owns sessions c (suc t)
      → t < (server_at sessions c).go
      → Takes c
  takes-early c h own early =
      let d = sessions.opposite c in
      let g = known-back sessions ok c h in
      let server = server_at sessions d in
      let paths = paths-of sessions ok d g in
      let go = (ok.answered c h).go in
      let before = (idle-before server paths t (omega arith)).taken in
      let after = (idle-before server paths (suc t) (omega arith)).taken in
      let same = took.rests c h (early-alone sessions ok c t h own early) in
      record {
        count = 0;
        received = ap (λ (q : QueueState). q.received) same
            ∙ ap (λ (q : QueueState). q.received) (drive-keeps c);
        owed = ap (λ (q : QueueState). q.owed) same ∙ omega arith;
        few = omega arith;
        server = omega (arith, before, after);
      }

  takes : (c : ℕ) → c < sessions.count → Owns sessions c (suc t) → Takes c
  takes c h own = elim (going-or-early sessions ok c t own) [
    | inl going ↦ takes-going c h own going
    | inr early ↦ takes-early c h own early
  ]

  -- What comes at a session's queue, from the opposite session.
  record Brings (c : ℕ) : Type 0 where
    words : words_for (number c) (comes c)
        ≡ words_from (flow_at sessions (sessions.opposite c)).values
        (landed (server_at sessions (sessions.opposite c)) (suc t))
        (landed (server_at sessions (sessions.opposite c)) (suc (suc t))
        - landed (server_at sessions (sessions.opposite c)) (suc t))
    grows : landed (server_at sessions (sessions.opposite c)) (suc t)
        ≤ landed (server_at sessions (sessions.opposite c)) (suc (suc t))
    credits : credits_for (number c) (comes c) + returned (server_at sessions c) (suc t)
        ≡ returned (server_at sessions c) (suc (suc t))

  brings : (c : ℕ) → c < sessions.count → Owns sessions c (suc t) → Brings c
  brings c h own =
      let d = sessions.opposite c in
      let back = (ok.answered c h).back in
      let land = lands sessions ok t wires exact d (known-back sessions ok c h)
      (owns-back sessions ok c (suc t) h own) in
      record {
        words = ap (λ n. words_for (number n) (comes n)) (sym back) ∙ land.words;
        grows = land.grows;
        credits = ap
            (λ n. credits_for (number n) (comes n) + returned (server_at sessions n) (suc t))
            (sym back)
            ∙ land.credits ∙ ap (λ n. returned (server_at sessions n) (suc (suc t))) back;
      }

  -- Behind the latch the queue has what it had behind the takes, and what comes; and these are
  -- the words of the opposite session from those taken to those landed.
  record Receives (c : ℕ) : Type 0 where
    whole : (last c).received ≡ (third c).received ++ words_for (number c) (comes c)
    is : (last c).received ≡ words_from (flow_at sessions (sessions.opposite c)).values
        (taken (server_at sessions (sessions.opposite c)) (suc t))
        (landed (server_at sessions (sessions.opposite c)) (suc (suc t))
        - taken (server_at sessions (sessions.opposite c)) (suc t))

  receives : (c : ℕ) → c < sessions.count → Owns sessions c (suc t) → Receives c
  receives c h own =
      let d = sessions.opposite c in
      let g = known-back sessions ok c h in
      let server = server_at sessions d in
      let paths = paths-of sessions ok d g in
      let values = (flow_at sessions d).values in
      let was = taken server t in
      let now = taken server (suc t) in
      let here = landed server (suc t) in
      let next = landed server (suc (suc t)) in
      let take = takes c h own in
      let bring = brings c h own in
      let some = received-length sessions ok (suc t) t net at c h own in
      let order = (in-order server paths (suc t)).takes in
      let left : (third c).received ≡ words_from values now (here - now) =
      take.received ∙ ap (λ (ws : List ℕ). drop take.count ws) (at.received c h own)
      ∙ drop-words_from take.count values was (here - was) now (here - now)
      take.server (omega (arith, take.server)) (omega (arith, take.few, some)) in
      let all : (third c).received ++ words_for (number c) (comes c)
      ≡ words_from values now (next - now) =
      ap (λ (ws : List ℕ). ws ++ words_for (number c) (comes c)) left
      ∙ ap (λ (ws : List ℕ). words_from values now (here - now) ++ ws) bring.words
      ∙ words_from-append values now (here - now) here (next - here) (next - now)
      (omega (arith, order)) (omega (arith, order, bring.grows)) in
      let most = landed-most sessions ok d (suc (suc t)) g in
      let size : length ((third c).received ++ words_for (number c) (comes c)) ≡ next - now =
      ap (λ (ws : List ℕ). length ws) all
      ∙ length-words_from values now (next - now) (omega (arith, order, bring.grows, most)) in
      let room = room-next server paths (suc t) in
      let holds = at.room c h in
      let same = third-room c h in
      let whole = ap (λ (q : QueueState). q.received) (latched.queue c h)
      ∙ brought_by-received (comes c) (number c) (third c)
      (omega (arith, size, room, holds, same)) in
      record { whole = whole; is = whole ∙ all }

  counter-next : (c : ℕ) → c < sessions.count → HasCounter sessions c (suc t)
      → (last c).counter + sent (server_at sessions c) (suc t)
      ≡ (server_at sessions c).buffer + returned (server_at sessions c) (suc (suc t))
  counter-next c h has =
      let server = server_at sessions c in
      let paths = paths-of sessions ok c h in
      let set = has.set in
      let since = (ok.ordered c h).set_since in
      let own : Owns sessions c (suc t) = record { since = omega arith; finish = has.finish } in
      let gone = leaves sessions ok t net at enough c h own in
      let bring = brings c h own in
      let was = at.counter c h has in
      let step = sends-step sessions ok c t in
      let grows = sent-more server paths t (suc t) (omega arith) in
      let back = returned-sent server paths (suc t) in
      let buffer = (ok.given c h).buffer in
      let left : (third c).counter ≡ (first c).counter - sends (flow_at sessions c) t =
      ap (λ (q : QueueState). q.counter) (took.kept c h)
      ∙ ap (λ (q : QueueState). q.counter) gone.is in
      let within = gone.counter in
      let total : (third c).counter + credits_for (number c) (comes c) + sent server (suc t)
      ≡ server.buffer + returned server (suc (suc t)) =
      omega (arith, left, bring.credits, was, step, grows, within) in
      let counts : (last c).counter ≡ (third c).counter + credits_for (number c) (comes c) =
      ap (λ (q : QueueState). q.counter) (latched.queue c h)
      ∙ brought_by-counter (comes c) (number c) (third c) (omega (arith, total, back, buffer)) in
      omega (arith, counts, total)

  owed-next : (c : ℕ) → c < sessions.count → Owns sessions c (suc t)
      → let d = sessions.opposite c in
      (last c).owed + credited (server_at sessions d) (suc t) ≡ taken (server_at sessions d) (suc t)
  owed-next c h own =
      let d = sessions.opposite c in
      let server = server_at sessions d in
      let paths = paths-of sessions ok d (known-back sessions ok c h) in
      let gone = leaves sessions ok t net at enough c h own in
      let take = takes c h own in
      let was = at.owed c h own in
      let step = returns-step sessions ok c t h in
      let grows = credited-more server paths t (suc t) (omega arith) in
      let left : (second c).owed ≡ (first c).owed - returns (flow_at sessions c) t =
      ap (λ (q : QueueState). q.owed) gone.is in
      let same : (last c).owed ≡ (third c).owed =
      ap (λ (q : QueueState). q.owed) (latch-keeps c h) in
      let within = gone.credits in
      omega (arith, same, take.owed, take.server, left, was, step, grows, within)

  -- No more goes than waits.
  enqueued-low : (c : ℕ) → c < sessions.count → Owns sessions c (suc t)
      → sent (server_at sessions c) (suc t) ≤ new.enqueued c
  enqueued-low c h own =
      let gone = leaves sessions ok t net at enough c h own in
      let low = at.enqueued_low c h own in
      let step = sends-step sessions ok c t in
      let grows = sent-more (server_at sessions c) (paths-of sessions ok c h) t (suc t)
      (omega arith) in
      omega (arith, gone.words, low, step, grows, enqueued c h own.finish)

  waiting-next : (c : ℕ) → c < sessions.count → Owns sessions c (suc t)
      → (last c).waiting
      ≡ words_from (flow_at sessions c).values (sent (server_at sessions c) (suc t))
      (new.enqueued c - sent (server_at sessions c) (suc t))
  waiting-next c h own =
      let server = server_at sessions c in
      let gone = leaves sessions ok t net at enough c h own in
      let step = sends-step sessions ok c t in
      let grows = sent-more server (paths-of sessions ok c h) t (suc t) (omega arith) in
      let low = at.enqueued_low c h own in
      let same = enqueued c h own.finish in
      let few = sends (flow_at sessions c) t in
      ap (λ (q : QueueState). q.waiting) (latch-keeps c h)
      ∙ ap (λ (q : QueueState). q.waiting) (took.kept c h)
      ∙ ap (λ (q : QueueState). q.waiting) gone.is
      ∙ ap (λ (ws : List ℕ). drop few ws) (at.waiting c h own)
      ∙ drop-words_from few (flow_at sessions c).values (sent server t)
      (net.enqueued c - sent server t)
      (sent server (suc t)) (new.enqueued c - sent server (suc t)) (omega (arith, step, grows))
      (omega (arith, same, step, grows, low)) gone.words

  -- The components after the cycle stand as the counts after it say.
  pub stands-next : Stands sessions (suc t) (suc t) new
  stands-next = record {
    entry_only = λ n x queue is. at.entry_only n x queue (sym (entry-stays n x) ∙ is);
    entry_all = λ c x h has. entry-stays (sessions.routed_session c).ni x ∙ at.entry_all c x h has;
    route = λ c h run. route-stays c h ∙ at.route c h run;
    running = λ c h run. halted-stays c h ∙ at.running c h run;
    halted = λ c h stop freed. halted-stays c h ∙ at.halted c h stop freed;
    none_enqueued = λ c h soon.
        let order = ok.ordered c h in
        let drained = (ok.given c h).drained in
        enqueued c h (omega (arith, order.set_since, order.set_stop, drained, soon))
        ∙ at.none_enqueued c h soon;
    enqueued_low = enqueued-low;
    enqueued_high = λ c h own.
        let high = at.enqueued_high c h own in
        let grows =
        sent-more (server_at sessions c) (paths-of sessions ok c h) t (suc t) (omega arith) in
        omega (arith, high, grows, enqueued c h own.finish);
    enqueued_arrived = λ c h own.
        let few = at.enqueued_arrived c h own in
        let grows = has-grown (server_at sessions c) (paths-of sessions ok c h) (suc t)
        (suc (suc t))
        (omega arith) in
        omega (arith, few, grows.arrived, enqueued c h own.finish);
    waiting = waiting-next;
    received = λ c h own. (receives c h own).is;
    counter = counter-next;
    owed = owed-next;
    room = λ c h.
        let same = ap (λ (q : QueueState). q.room) (latch-keeps c h) ∙ third-room c h in
        omega (arith, at.room c h, same);
    held = λ v is.
        let now : t ≡ v = omega arith in
        subst (λ n. Exact sessions n new.held) now
        (exact-same sessions t wires new.held latched.held exact);
    held_none = λ none. absurd (omega arith);
  }

  -- Nothing that comes is dropped.
  pub received-whole : (c : ℕ) → c < sessions.count → Owns sessions c (suc t)
      → (last c).received ≡ (third c).received ++ words_for (number c) (comes c)
  received-whole c h own = (receives c h own).whole

  -- What the receiver takes of what is there is what its private server takes.
  pub taken-same : (c : ℕ) → c < sessions.count → Owns sessions c (suc t)
      → let server = server_at sessions (sessions.opposite c) in
      taken server (suc t) ≡ taken server t + min (pull_at server t) (length (second c).received)
  taken-same c h own =
      let d = sessions.opposite c in
      let server = server_at sessions d in
      let some = received-length sessions ok (suc t) t net at c h own in
      let same : length (second c).received ≡ length (first c).received =
      ap (λ (q : QueueState). length q.received) (drive-keeps c) in
      taken-next server (paths-of sessions ok d (known-back sessions ok c h)) t
      ∙ ap (λ n. taken server t + min (pull_at server t) n) (sym (same ∙ some))
