-- Changes of single components.
--
--   with_part, on_interface        one component has changed, where it is an interface
--   at_end, told_by, told_at       one queue has changed, and a number that a queue tells
--   event_done, happened, switched the components once events are done
--
-- This project's own.
use Rattle.std.proofs.Common.{ℕ, zero, suc, List, [], ◌∷◌, fold, slice_get}
use Rattle.std.specs.Option.{option_map_or}
use Rattle.aeth_router.specs.declared.part.Part.{Part}
use Rattle.aeth_router.specs.declared.part.Part.TheVariants.{Interface, Router, Stage, TableRouter}
use Rattle.aeth_components.specs.declared.event.Event.{Event}
use Rattle.aeth_components.specs.declared.event.Event.TheVariants.{Halt, Finish, Change}
use Rattle.aeth_components.specs.declared.channel_state.ChannelEnd.{ChannelEnd}
use Rattle.aeth_components.specs.Events.{event_part}
use Rattle.aeth_ni.specs.{Interface.InterfaceState, Interface.changed, Interface.queue_at}
use Rattle.aeth_ni.specs.{Queue.QueueState, Queue.finished, Queue.stopped, Writes.written}

-- The component of a number has changed, and no other.
abbrev pub with_part : ℕ → (Part → Part) → List Part → List Part
with_part number change [] = []
with_part zero change (part ∷ parts) = change part ∷ parts
with_part (suc number) change (part ∷ parts) = part ∷ with_part number change parts

-- An interface has changed; a router or a stage hasn't.
abbrev pub on_interface : (InterfaceState → InterfaceState) → Part → Part
on_interface change (Interface ni) = Interface (change ni)
on_interface change (Router router) = Router router
on_interface change (TableRouter router) = TableRouter router
on_interface change (Stage stage) = Stage stage

-- One queue of one interface has changed.
abbrev pub at_end : ChannelEnd → (QueueState → QueueState) → List Part → List Part
at_end end change parts = with_part end.ni.0 (on_interface (changed end.queue change)) parts

-- A number that a queue tells, and 0 of a router or a stage.
abbrev pub told_by : ℕ → (QueueState → ℕ) → Part → ℕ
told_by queue tells (Interface ni) = tells (queue_at ni.queues queue)
told_by queue tells (Router router) = 0
told_by queue tells (TableRouter router) = 0
told_by queue tells (Stage stage) = 0

abbrev pub told_at : ChannelEnd → (QueueState → ℕ) → List Part → ℕ
told_at end tells parts = option_map_or (told_by end.queue tells) (slice_get parts end.ni.0) 0

-- What an event makes of its interface.
abbrev pub event_done : Event → InterfaceState → InterfaceState
event_done (Halt end) ni = changed end.queue stopped ni
event_done (Finish end) ni = changed end.queue finished ni
event_done (Change write) ni = written write ni

abbrev pub happened : List Part → Event → List Part
happened parts event = with_part (event_part event) (on_interface (event_done event)) parts

-- The components once these events are done, one after the other.
abbrev pub switched : List Event → List Part → List Part
switched events parts = fold happened parts events
