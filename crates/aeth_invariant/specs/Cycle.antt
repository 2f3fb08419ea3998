-- What the other parts of a cycle change, each as a relation: what changes, and that all else
-- stays.
--
--   enqueuing, Refilled      words are enqueued at source queues
--   Took      the receivers take
--   Latched      all components latch
--   NetCycle      a whole cycle
-- This project's own.
use Rattle.std.proofs.Common.{◌≡◌, ◌<◌, ℕ, ◌+◌, ◌-◌, ◌++◌, min, Option, length}
use Rattle.aeth_clocked.specs.declared.flit.Flit.{Flit}
use Rattle.aeth_ni.specs.Limits.{waiting_words}
use Rattle.aeth_server.specs.PrivateServer.{arrived, pull_at}
use Rattle.aeth_invariant.specs.RoutedSessions.{RoutedSessions, IsOpenSession, IsSameQueue, flow_at}
use Rattle.aeth_invariant.specs.RoutedSessions.{server_at}
use Rattle.aeth_invariant.specs.Carried.{words_from}
use Rattle.aeth_invariant.specs.Components.{Net, after, brought, driven, queue_of, words_taken}
use Rattle.aeth_invariant.specs.Switches.{Switched}

module _ (sessions : RoutedSessions) where
  -- How many words are enqueued at the source queue of a session in cycle t: until eight wait, or
  -- no word that has arrived is left.
  abbrev pub enqueuing : Net → ℕ → ℕ → ℕ
  enqueuing net t c =
      min (waiting_words - length (queue_of sessions net c).waiting)
      (arrived (server_at sessions c) (t + 1) - net.enqueued c)

  -- The source queues of the sessions in use are refilled in cycle t.
  pub record Refilled (t : ℕ) (old new : Net) : Type 0 where
    pub fills : (c : ℕ) → c < sessions.count → IsOpenSession sessions c t
        → (queue_of sessions new c).waiting ≡ (queue_of sessions old c).waiting
        ++ words_from (flow_at sessions c).values (old.enqueued c) (enqueuing old t c)
    pub counts : (c : ℕ) → c < sessions.count → IsOpenSession sessions c t
        → new.enqueued c ≡ old.enqueued c + enqueuing old t c
    pub rests : (c : ℕ) → c < sessions.count
        → ((d : ℕ) → d < sessions.count → IsOpenSession sessions d t → IsSameQueue sessions d c → ⊥)
        → (queue_of sessions new c).waiting ≡ (queue_of sessions old c).waiting
    pub rested : (c : ℕ) → c < sessions.count → t < (server_at sessions c).go
        → new.enqueued c ≡ old.enqueued c
    pub kept : (c : ℕ) → c < sessions.count → queue_of sessions new c
        ≡ record (queue_of sessions old c) { waiting = (queue_of sessions new c).waiting }
    pub entry : (n x : ℕ) → new.entry n x ≡ old.entry n x
    pub held : (l : ℕ) → new.held l ≡ old.held l

  -- The receivers of the sessions in use take in cycle t.
  pub record Took (t : ℕ) (old new : Net) : Type 0 where
    pub takes : (c : ℕ) → c < sessions.count → IsOpenSession sessions c t
        → queue_of sessions new c
        ≡ words_taken (pull_at (server_at sessions (sessions.opposite c)) t)
        (queue_of sessions old c)
    pub rests : (c : ℕ) → c < sessions.count
        → ((d : ℕ) → d < sessions.count → IsOpenSession sessions d t → IsSameQueue sessions d c → ⊥)
        → queue_of sessions new c ≡ queue_of sessions old c
    pub kept : (c : ℕ) → c < sessions.count → queue_of sessions new c
        ≡ record (queue_of sessions old c) {
          received = (queue_of sessions new c).received;
          owed = (queue_of sessions new c).owed;
        }
    pub entry : (n x : ℕ) → new.entry n x ≡ old.entry n x

  -- All components have latched these wires.
  pub record Latched (wires : ℕ → Option Flit) (old new : Net) : Type 0 where
    pub queue : (c : ℕ) → c < sessions.count → queue_of sessions new c
        ≡ brought (wires (sessions.entering (sessions.routed_session c).ni))
        (sessions.routed_session c).queue
        (queue_of sessions old c)
    pub entry : (n x : ℕ) → new.entry n x ≡ old.entry n x
    pub held : (l : ℕ) → new.held l ≡ wires l

  -- One cycle: halts, finishes and writes, refilling, driving, taking, latching.
  pub record NetCycle (t : ℕ) (old : Net) (wires : ℕ → Option Flit) (new : Net) : Type 0 where
    pub tables : Net
    pub ready : Net
    pub pulled : Net
    pub switched : Switched sessions (t + 1) old tables
    pub refilled : Refilled t tables ready
    pub drives : (l : ℕ) → wires l ≡ driven sessions ready t l
    pub took : Took t (after sessions ready t) pulled
    pub latched : Latched wires pulled new
    pub enqueued : (c : ℕ) → c < sessions.count → t < (server_at sessions c).finish
        → new.enqueued c ≡ ready.enqueued c
