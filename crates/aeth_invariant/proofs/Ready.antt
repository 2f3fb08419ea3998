-- Refilling leads from the private servers' counts to the same counts, with words enough at hand.
use Rattle.std.proofs.Common.{◌≡◌, ◌≤◌, ◌<◌, ◌∙◌, ℕ, suc, ◌+◌, ◌-◌, min, List, ◌++◌, sym, ap, arith}
use Rattle.std.proofs.Common.{inl, inr}
use Rattle.aeth_base.specs.Limits.{words_per_flit}
use Rattle.aeth_ni.specs.{Limits.waiting_words, Queue.QueueState}
use Rattle.aeth_server.specs.PrivateServer.{arrived, sent}
use Rattle.aeth_server.proofs.SessionEnds.{idle-before}
use Rattle.aeth_invariant.specs.{WellRouted.AreWellRouted, Carried.words_from, Cycle.Refilled}
use Rattle.aeth_invariant.specs.{Cycle.enqueuing, Components.Net, Components.queue_of}
use Rattle.aeth_invariant.specs.{RoutedSessions.RoutedSessions, RoutedSessions.IsOpenSession}
use Rattle.aeth_invariant.specs.{RoutedSessions.Owns, RoutedSessions.flow_at}
use Rattle.aeth_invariant.specs.{RoutedSessions.server_at, Standing.Stands}
use Rattle.aeth_invariant.proofs.{Owning.early-alone, Owning.exact-same, Owning.going-or-early}
use Rattle.aeth_invariant.proofs.{Owning.waiting-length, Unique.paths-of, Words.words_from-append}

-- The numbers of a refilling: `old` words enqueued before, of which `gone` were sent, `all` have
-- arrived, and `more` are enqueued now.
record IsRefill (gone old all more : ℕ) : Type 0 where
  low : gone ≤ old + more
  high : old + more ≤ gone + waiting_words
  few : old + more ≤ all
  enough : (x : ℕ) → min words_per_flit (min (old + more - gone) x)
      ≡ min words_per_flit (min (all - gone) x)

refill : (gone old all more : ℕ) → gone ≤ old → old ≤ gone + waiting_words → old ≤ all
    → more ≡ min (waiting_words - (old - gone)) (all - old) → IsRefill gone old all more
refill gone old all more low high few is = record {
  low = omega arith;
  high = omega arith;
  few = omega arith;
  enough = λ x. omega arith;
}

module _ (sessions : RoutedSessions) (ok : AreWellRouted sessions) (t : ℕ) where
  -- Of what waits as many words can go as of all that have arrived.
  abbrev pub Enough : Net → Type 0
  Enough net = (c x : ℕ) → c < sessions.count → Owns sessions c (suc t)
      → min words_per_flit (min (net.enqueued c - sent (server_at sessions c) t) x)
      ≡ min words_per_flit
      (min (arrived (server_at sessions c) (suc t) - sent (server_at sessions c) t) x)

  module _ (old new : Net) (at : Stands sessions (suc t) t old)
      (fill : Refilled sessions t old new) where
    -- What holds of a session's source queue then.
    record IsReady (c : ℕ) : Type 0 where
      low : sent (server_at sessions c) t ≤ new.enqueued c
      high : new.enqueued c ≤ sent (server_at sessions c) t + waiting_words
      few : new.enqueued c ≤ arrived (server_at sessions c) (suc t)
      waiting : (queue_of sessions new c).waiting ≡ words_from (flow_at sessions c).values
          (sent (server_at sessions c) t) (new.enqueued c - sent (server_at sessions c) t)
      enough : (x : ℕ) → min words_per_flit (min (new.enqueued c - sent (server_at sessions c) t) x)
          ≡ min words_per_flit
          (min (arrived (server_at sessions c) (suc t) - sent (server_at sessions c) t) x)

    going-ready : (c : ℕ) → c < sessions.count → Owns sessions c (suc t)
        → IsOpenSession sessions c t
        → IsReady c
    going-ready c h own going =
        let server = server_at sessions c in
        let values = (flow_at sessions c).values in
        let gone = sent server t in
        let next : t + 1 ≡ suc t = omega arith in
        let all = ap (arrived server) next in
        let some = waiting-length sessions ok (suc t) t old at c h own in
        let is : enqueuing sessions old t c
        ≡ min (waiting_words - (old.enqueued c - gone)) (arrived server (suc t) - old.enqueued c) =
        omega arith in
        let numbers =
        refill gone (old.enqueued c) (arrived server (suc t)) (enqueuing sessions old t c)
        (at.enqueued_low c h own) (at.enqueued_high c h own) (at.enqueued_arrived c h own) is in
        let counts = fill.counts c h going in
        let low = at.enqueued_low c h own in
        record {
          low = omega (arith, numbers.low, counts);
          high = omega (arith, numbers.high, counts);
          few = omega (arith, numbers.few, counts);
          waiting = fill.fills c h going
              ∙ ap
              (λ (ws : List ℕ). ws
              ++ words_from values (old.enqueued c) (enqueuing sessions old t c))
              (at.waiting c h own)
              ∙ words_from-append values gone (old.enqueued c - gone) (old.enqueued c)
              (enqueuing sessions old t c) (new.enqueued c - gone) (omega arith) (omega arith);
          enough = λ x. ap (λ n. min words_per_flit (min (n - gone) x)) counts ∙ numbers.enough x;
        }

    early-ready : (c : ℕ) → c < sessions.count → Owns sessions c (suc t)
        → t < (server_at sessions c).go
        → IsReady c
    early-ready c h own early =
        let server = server_at sessions c in
        let same = fill.rested c h early in
        let none = idle-before server (paths-of sessions ok c h) (suc t) early in
        let nothing = none.arrived in
        let low = at.enqueued_low c h own in
        let high = at.enqueued_high c h own in
        let few = at.enqueued_arrived c h own in
        record {
          low = omega arith;
          high = omega arith;
          few = omega arith;
          waiting = fill.rests c h (early-alone sessions ok c t h own early) ∙ at.waiting c h own
              ∙ ap (λ n. words_from (flow_at sessions c).values (sent server t) (n - sent server t))
              (sym same);
          enough = λ x. omega arith;
        }

    ready-of : (c : ℕ) → c < sessions.count → Owns sessions c (suc t) → IsReady c
    ready-of c h own = elim (going-or-early sessions ok c t own) [
      | inl going ↦ going-ready c h own going
      | inr early ↦ early-ready c h own early
    ]

    -- A session whose queue isn't its own yet has nothing enqueued.
    none_enqueued : (c : ℕ) → c < sessions.count → suc t < (sessions.routed_session c).since
        → new.enqueued c ≡ 0
    none_enqueued c h soon =
        let set = (ok.ordered c h).set_since in
        let go = (ok.ordered c h).set_go in
        fill.rested c h (omega (arith, set, go, soon)) ∙ at.none_enqueued c h soon

    pub enough : Enough new
    enough c x h own = (ready-of c h own).enough x

    pub ready : Stands sessions (suc t) t new
    ready = record {
      entry_only = λ n x queue is. at.entry_only n x queue (sym (fill.entry n x) ∙ is);
      entry_all = λ c x h has. fill.entry (sessions.routed_session c).ni x ∙ at.entry_all c x h has;
      route = λ c h run. ap (λ (q : QueueState). q.route) (fill.kept c h) ∙ at.route c h run;
      running = λ c h run. ap (λ (q : QueueState). q.halted) (fill.kept c h) ∙ at.running c h run;
      halted = λ c h stop freed.
          ap (λ (q : QueueState). q.halted) (fill.kept c h) ∙ at.halted c h stop freed;
      none_enqueued = none_enqueued;
      enqueued_low = λ c h own. (ready-of c h own).low;
      enqueued_high = λ c h own. (ready-of c h own).high;
      enqueued_arrived = λ c h own. (ready-of c h own).few;
      waiting = λ c h own. (ready-of c h own).waiting;
      received = λ c h own.
          ap (λ (q : QueueState). q.received) (fill.kept c h) ∙ at.received c h own;
      counter = λ c h has.
          ap (λ (q : QueueState). q.counter + sent (server_at sessions c) t) (fill.kept c h)
          ∙ at.counter c h has;
      owed = λ c h own.
          let same = ap (λ (q : QueueState). q.owed) (fill.kept c h) in
          let was = at.owed c h own in
          omega arith;
      room = λ c h.
          let same = ap (λ (q : QueueState). q.room) (fill.kept c h) in
          let was = at.room c h in
          omega arith;
      held = λ v is. exact-same sessions v old.held new.held fill.held (at.held v is);
      held_none = λ is l. fill.held l ∙ at.held_none is l;
    }
