-- Components seen by their queues.
-- This project's own.
use Rattle.std.proofs.Common.{◌≡◌, ◌<◌, ℕ, List, Option, Some, None, slice_get}
use Rattle.aeth_base.specs.declared.ids.{LinkId.LinkId, NiId.NiId}
use Rattle.aeth_router.specs.declared.part.Part.{Part}
use Rattle.aeth_router.specs.declared.part.Part.TheVariants.{Interface, Router, Stage, TableRouter}
use Rattle.aeth_components.specs.declared.channel_state.ChannelEnd.{ChannelEnd}
use Rattle.aeth_components.specs.Wirings.{Wiring, InterfaceWiring}
use Rattle.aeth_ni.specs.{Interface.queue_at, Queue.QueueState, Queue.empty_queue}

-- One queue of a component; an empty one where there is none.
abbrev pub queue_in : ℕ → Option Part → QueueState
queue_in queue None = empty_queue 0
queue_in queue (Some (Interface ni)) = queue_at ni.queues queue
queue_in queue (Some (Router router)) = empty_queue 0
queue_in queue (Some (TableRouter router)) = empty_queue 0
queue_in queue (Some (Stage stage)) = empty_queue 0

-- One queue of one of the components.
abbrev pub queue_of : List Part → ℕ → ℕ → QueueState
queue_of parts ni queue = queue_in queue (slice_get parts ni)

-- An end is a queue of an interface with such a wiring.
pub record HasQueue (wirings : List Wiring) (end : ChannelEnd) : Type 0 where
  pub number : NiId
  pub leaving : LinkId
  pub entering : LinkId
  pub slots : ℕ
  pub queues : ℕ
  pub face : slice_get wirings end.ni.0
      ≡ Some (InterfaceWiring number leaving entering slots queues)
  pub within : end.queue < queues

-- A slot of an interface with such a wiring.
pub record HasSlot (wirings : List Wiring) (ni slot : ℕ) : Type 0 where
  pub number : NiId
  pub leaving : LinkId
  pub entering : LinkId
  pub slots : ℕ
  pub queues : ℕ
  pub face : slice_get wirings ni ≡ Some (InterfaceWiring number leaving entering slots queues)
  pub within : slot < slots
