-- A network interface: its state, and a change of one of its queues.
--
--   InterfaceState, IsInterface    the state, and what holds of every one
--   queue_at, with_queue, changed  one queue, and a change of one queue
--   new_interface                  the state at first
--
-- Slot tables in network interfaces: after Æthereal (2005).
use Rattle.std.proofs.Common.{◌≡◌, ◌<◌, ℕ, Option, None, IfSome, List, length, map, replicate, All}
use Rattle.std.proofs.Common.{slice_set}
use Rattle.std.specs.List.{slice_index_or}
use Rattle.aeth_base.specs.declared.ids.{LinkId.LinkId, NiId.NiId}
use Rattle.aeth_ni.specs.{Limits.queues_of_interface, Queue.QueueState, Queue.empty_queue}

-- An interface: its number and its two links, the queue that injects in each slot, the queues,
-- and the queue and the word count of the flit that was latched last.
pub record InterfaceState : Type 0 where
  pub number : NiId
  pub leaving : LinkId
  pub entering : LinkId
  pub entries : List (Option ℕ)
  pub queues : List QueueState
  pub last : Option (ℕ × ℕ)

-- The entry of a slot names a queue.
abbrev pub IsEntry : Option ℕ → Type 0
IsEntry entry = IfSome entry (λ queue. queue < queues_of_interface)

-- What holds of every interface.
pub record IsInterface (entries : List (Option ℕ)) (queues : List QueueState) : Type 0 where
  pub count : length queues ≡ queues_of_interface
  pub some_slot : 0 < length entries
  pub named : All IsEntry entries

-- One queue.
abbrev pub queue_at : List QueueState → ℕ → QueueState
queue_at queues number = slice_index_or queues number (empty_queue 0)

-- One queue has changed, and no other.
abbrev pub with_queue : ℕ → (QueueState → QueueState) → List QueueState → List QueueState
with_queue number change queues = slice_set queues number (change (queue_at queues number))

-- One queue of an interface has changed, and nothing else.
abbrev pub changed : ℕ → (QueueState → QueueState) → InterfaceState → InterfaceState
changed number change interface =
    record interface { queues = with_queue number change interface.queues }

-- An interface with a number of slots and a queue for each room, all empty.
abbrev pub new_interface : NiId → LinkId → LinkId → ℕ → List ℕ → InterfaceState
new_interface number leaving entering slots rooms = record {
  number = number;
  leaving = leaving;
  entering = entering;
  entries = replicate slots None;
  queues = map empty_queue rooms;
  last = None;
}
