-- What halts, finishes and writes change, as a relation.
--
--   route_of      the route of a flow, as an interface holds it
--   halt_of and its kin, HasEvent      the events of sessions, and one on the queue of a session
--   IsEntryAt, IsSetNow      entries
--   Switched      what changes in a cycle, and that all else stays
-- Slot tables that are written while the network runs: after Æthereal (2005). This form of it: this
-- project's own.
use Rattle.std.proofs.Common.{◌≡◌, ◌≤◌, ◌<◌, ◌⊎◌, ℕ, suc, true, false, Some, []}
use Rattle.aeth_ni.specs.declared.queue.Route.{Route}
use Rattle.aeth_report.specs.Flows.{Flow}
use Rattle.aeth_invariant.specs.RoutedSessions.{RoutedSessions, IsSameQueue, flow_at, has_slot}
use Rattle.aeth_invariant.specs.RoutedSessions.{server_at}
use Rattle.aeth_invariant.specs.Components.{Net, queue_of}

-- The route of a flow, as an interface holds it.
abbrev pub route_of : Flow → Route
route_of flow = record { ports = flow.route; remote = flow.remote }

module _ (sessions : RoutedSessions) where
  -- An event of some session falls on the queue of this one: where a cycle of each is given.
  pub record HasEvent (cycle : ℕ → ℕ) (t c : ℕ) : Type 0 where
    pub number : ℕ
    pub known : number < sessions.count
    pub falls : cycle number ≡ t
    pub same : IsSameQueue sessions number c

  -- The cycles of a session's halt, finish and writes of its route, counted as in `RoutedSession`.
  abbrev pub halt_of : ℕ → ℕ
  halt_of c = suc (server_at sessions c).stop

  abbrev pub finish_of : ℕ → ℕ
  finish_of c = suc (server_at sessions c).finish

  abbrev pub set_of : ℕ → ℕ
  set_of c = (sessions.routed_session c).set

  abbrev pub freed_of : ℕ → ℕ
  freed_of c = (sessions.routed_session c).freed

  -- What a session's entry of slot x needs to be written, at interface n.
  pub record IsEntryAt (n x c : ℕ) : Type 0 where
    pub known : c < sessions.count
    pub uses : has_slot sessions c x ≡ true
    pub ni : (sessions.routed_session c).ni ≡ n

  -- An entry was set.
  pub record IsSetNow (t n x queue : ℕ) : Type 0 where
    pub number : ℕ
    pub at : IsEntryAt n x number
    pub queue_is : (sessions.routed_session number).queue ≡ queue
    pub falls : (sessions.routed_session number).slot_set x ≡ t

  -- The halts, finishes and writes that end with t cycles: those of cycle t - 1.
  pub record Switched (t : ℕ) (old new : Net) : Type 0 where
    pub halt : (c : ℕ) → c < sessions.count → halt_of c ≡ t
        → (queue_of sessions new c).halted ≡ true
    pub finish_waiting : (c : ℕ) → c < sessions.count → finish_of c ≡ t
        → (queue_of sessions new c).waiting ≡ []
    pub finish_received : (c : ℕ) → c < sessions.count → finish_of c ≡ t
        → (queue_of sessions new c).received ≡ []
    pub finish_owed : (c : ℕ) → c < sessions.count → finish_of c ≡ t
        → (queue_of sessions new c).owed ≡ 0
    pub set_route : (c : ℕ) → c < sessions.count → set_of c ≡ t
        → (queue_of sessions new c).route ≡ Some (route_of (flow_at sessions c))
    pub set_counter : (c : ℕ) → c < sessions.count → set_of c ≡ t
        → (queue_of sessions new c).counter ≡ (server_at sessions c).buffer
    pub set_halted : (c : ℕ) → c < sessions.count → set_of c ≡ t
        → (queue_of sessions new c).halted ≡ false
    pub set_slot : (n x c : ℕ) → IsEntryAt n x c → (sessions.routed_session c).slot_set x ≡ t
        → new.entry n x ≡ Some (sessions.routed_session c).queue
    -- all else stays
    pub kept_waiting : (c : ℕ) → c < sessions.count → (HasEvent finish_of t c → ⊥)
        → (queue_of sessions new c).waiting ≡ (queue_of sessions old c).waiting
    pub kept_received : (c : ℕ) → c < sessions.count → (HasEvent finish_of t c → ⊥)
        → (queue_of sessions new c).received ≡ (queue_of sessions old c).received
    pub kept_owed : (c : ℕ) → c < sessions.count → (HasEvent finish_of t c → ⊥)
        → (queue_of sessions new c).owed ≡ (queue_of sessions old c).owed
    pub kept_counter : (c : ℕ) → c < sessions.count → (HasEvent finish_of t c → ⊥)
        → (HasEvent set_of t c → ⊥)
        → (queue_of sessions new c).counter ≡ (queue_of sessions old c).counter
    pub kept_route : (c : ℕ) → c < sessions.count → (HasEvent set_of t c → ⊥)
        → (HasEvent freed_of t c → ⊥)
        → (queue_of sessions new c).route ≡ (queue_of sessions old c).route
    pub kept_halted : (c : ℕ) → c < sessions.count → (HasEvent set_of t c → ⊥)
        → (HasEvent halt_of t c → ⊥)
        → (queue_of sessions new c).halted ≡ (queue_of sessions old c).halted
    pub kept_room : (c : ℕ) → c < sessions.count
        → (queue_of sessions new c).room ≡ (queue_of sessions old c).room
    pub kept_entry : (n x : ℕ)
        → ((c : ℕ) → IsEntryAt n x c → (sessions.routed_session c).slot_set x ≡ t → ⊥)
        → ((c : ℕ) → IsEntryAt n x c → (sessions.routed_session c).slot_freed x ≡ t → ⊥)
        → new.entry n x ≡ old.entry n x
    -- an entry was written in this cycle, or was there before and wasn't cleared
    pub from_entry : (n x queue : ℕ) → new.entry n x ≡ Some queue
        → IsSetNow t n x queue
        ⊎ ((old.entry n x ≡ Some queue)
        × ((c : ℕ) → IsEntryAt n x c → (sessions.routed_session c).slot_freed x ≡ t → ⊥))
    pub enqueued : (c : ℕ) → c < sessions.count → t ≤ (server_at sessions c).finish
        → new.enqueued c ≡ old.enqueued c
    pub held : (l : ℕ) → new.held l ≡ old.held l
