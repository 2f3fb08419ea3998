-- The events of a cycle are those of the routed sessions.
--
--   queue_end      the queue from which a session sends, as an end
--   OnQueue, OnSlot, IsRouteSet, IsSlotSet      what a session does in a cycle at its queue, or at a slot
--   IsWriteOf, IsEventOf      an event is one of some session
--   Occurs, AreEvents      events that are all of those, and each once
-- The numbers of cycles are those of routed sessions: what is done in cycle t falls on t + 1.
-- This project's own.
use Rattle.std.proofs.Common.{◌≡◌, ◌<◌, ℕ, List, Some, true, slice_get}
use Rattle.aeth_base.specs.declared.ids.NiId.{NiId}
use Rattle.aeth_ni.specs.declared.write.Write.{Write}
use Rattle.aeth_ni.specs.declared.write.Write.TheVariants.{ClearSlot, ClearRoute, SetRoute, SetSlot}
use Rattle.aeth_components.specs.declared.event.Event.{Event}
use Rattle.aeth_components.specs.declared.event.Event.TheVariants.{Change, Finish, Halt}
use Rattle.aeth_components.specs.declared.channel_state.ChannelEnd.{ChannelEnd}
use Rattle.aeth_components.specs.Switching.{Touches, Writes}
use Rattle.aeth_invariant.specs.RoutedSessions.{RoutedSessions, RoutedSession, flow_at, has_slot}
use Rattle.aeth_invariant.specs.RoutedSessions.{server_at}
use Rattle.aeth_invariant.specs.Switches.{IsEntryAt, finish_of, freed_of, halt_of, set_of}

-- An event is at some place of a list.
abbrev pub Occurs : List Event → Event → Type 0
Occurs events event = (i : ℕ) × (slice_get events i ≡ Some event)

module _ (sessions : RoutedSessions) where
  -- The interface and the queue from which a session sends.
  abbrev pub ni_of : ℕ → NiId
  ni_of c = record { 0 = (sessions.routed_session c).ni }

  abbrev pub queue_end : ℕ → ChannelEnd
  queue_end c = record { ni = ni_of c; queue = (sessions.routed_session c).queue }

  -- A cycle of a session falls on this one, and this is its queue.
  pub record OnQueue (cycle : ℕ → ℕ) (e : ℕ) (ni : NiId) (queue : ℕ) : Type 0 where
    pub session : ℕ
    pub known : session < sessions.count
    pub falls : cycle session ≡ e
    pub ni_is : (sessions.routed_session session).ni ≡ ni.0
    pub queue_is : (sessions.routed_session session).queue ≡ queue

  -- A cycle of a session's slot falls on this one.
  pub record OnSlot (cycle : RoutedSession → ℕ → ℕ) (e : ℕ) (ni : NiId) (slot : ℕ) : Type 0 where
    pub session : ℕ
    pub at : IsEntryAt sessions ni.0 slot session
    pub falls : cycle (sessions.routed_session session) slot ≡ e
    pub within : slot < sessions.size

  -- A session's route is set, with its buffer as the counter.
  pub record IsRouteSet (e : ℕ) (ni : NiId) (queue route remote credits : ℕ) : Type 0 where
    pub on : OnQueue (set_of sessions) e ni queue
    pub route_is : route ≡ (flow_at sessions on.session).route
    pub remote_is : remote ≡ (flow_at sessions on.session).remote
    pub credits_are : credits ≡ (server_at sessions on.session).buffer

  -- The entry of a session's slot is set to its queue.
  pub record IsSlotSet (e : ℕ) (ni : NiId) (slot queue : ℕ) : Type 0 where
    pub on : OnSlot (λ routed_session. routed_session.slot_set) e ni slot
    pub queue_is : queue ≡ (sessions.routed_session on.session).queue

  -- A write is one of some session, and so is an event.
  abbrev pub IsWriteOf : ℕ → Write → Type 0
  IsWriteOf e (ClearSlot ni slot) = OnSlot (λ routed_session. routed_session.slot_freed) e ni slot
  IsWriteOf e (ClearRoute ni queue) = OnQueue (freed_of sessions) e ni queue
  IsWriteOf e (SetRoute ni queue route remote credits) =
      IsRouteSet e ni queue route remote credits
  IsWriteOf e (SetSlot ni slot queue) = IsSlotSet e ni slot queue

  abbrev pub IsEventOf : ℕ → Event → Type 0
  IsEventOf e (Halt end) = OnQueue (halt_of sessions) e end.ni end.queue
  IsEventOf e (Finish end) = OnQueue (finish_of sessions) e end.ni end.queue
  IsEventOf e (Change write) = IsWriteOf e write

  -- Events are of sessions whose cycles fall on this one, each such event occurs, no two change one
  -- queue, and no two write one slot.
  pub record AreEvents (e : ℕ) (events : List Event) : Type 0 where
    pub only : (i : ℕ) (event : Event) → slice_get events i ≡ Some event → IsEventOf e event
    pub halts : (c : ℕ) → c < sessions.count → halt_of sessions c ≡ e
        → Occurs events (Halt (queue_end c))
    pub finishes : (c : ℕ) → c < sessions.count → finish_of sessions c ≡ e
        → Occurs events (Finish (queue_end c))
    pub frees : (c : ℕ) → c < sessions.count → freed_of sessions c ≡ e
        → Occurs events (Change (ClearRoute (ni_of c) (sessions.routed_session c).queue))
    pub sets : (c : ℕ) → c < sessions.count → set_of sessions c ≡ e
        → Occurs events
        (Change (SetRoute (ni_of c) (sessions.routed_session c).queue (flow_at sessions c).route
        (flow_at sessions c).remote (server_at sessions c).buffer))
    pub slots_clear : (c x : ℕ) → c < sessions.count → has_slot sessions c x ≡ true
        → (sessions.routed_session c).slot_freed x ≡ e
        → Occurs events (Change (ClearSlot (ni_of c) x))
    pub slots_set : (c x : ℕ) → c < sessions.count → has_slot sessions c x ≡ true
        → (sessions.routed_session c).slot_set x ≡ e
        → Occurs events (Change (SetSlot (ni_of c) x (sessions.routed_session c).queue))
    pub queue_once : (i j ni queue : ℕ) (one other : Event) → slice_get events i ≡ Some one
        → slice_get events j ≡ Some other → Touches one ni queue → Touches other ni queue → i ≡ j
    pub slot_once : (i j ni slot : ℕ) (one other : Event) → slice_get events i ≡ Some one
        → slice_get events j ≡ Some other → Writes one ni slot → Writes other ni slot → i ≡ j
