-- A network interface as a component: what it emits in a cycle, and what it absorbs.
--
--   queue_at_cycle, emitted_by, flit_sent_by  what is sent in a cycle
--   Arrival, arrival_of            what the entering link brings
--   landed_at, last_of, absorbed   what has come, and what `last` tells of it
--   interface_outputs and its kin  the meanings of an interface as a component
--
-- Slot tables in network interfaces: after Æthereal (2005).
use Rattle.std.proofs.Common.{ℕ, ◌%◌, ◌==◌, Bool, Option, Some, None, Result, Ok, Err, List, length}
use Rattle.std.specs.List.{slice_index_or}
use Rattle.aeth_clocked.specs.{Wires.flit_on, declared.flit.Flit.Flit}
use Rattle.aeth_header.specs.Header.{header_of}
use Rattle.aeth_header.specs.declared.{fault.HeaderFault.HeaderFault, header.Header.Header}
use Rattle.aeth_ni.specs.Queue.{QueueState, words_in, flit_landed}
use Rattle.aeth_ni.specs.Sending.{emitted, flit_sent}
use Rattle.aeth_ni.specs.Interface.{InterfaceState, queue_at, with_queue}

-- The queue that injects in a cycle, if one does.
abbrev pub queue_at_cycle : List (Option ℕ) → ℕ → Option ℕ
queue_at_cycle entries cycle = slice_index_or entries (cycle % length entries) None

-- What the queue of an entry emits.
abbrev pub emitted_by : Option ℕ → List QueueState → Option Flit
emitted_by None queues = None
emitted_by (Some queue) queues = emitted (queue_at queues queue)

-- The queues behind it.
abbrev pub flit_sent_by : Option ℕ → List QueueState → List QueueState
flit_sent_by None queues = queues
flit_sent_by (Some queue) queues = with_queue queue flit_sent queues

-- What a flit brings: its header and its words.
pub record Arrival : Type 0 where
  pub header : Header
  pub words : List ℕ

-- What comes by a flit whose word has this header.
abbrev pub arrival_by : Flit → Result Header HeaderFault → Option Arrival
arrival_by flit (Ok header) = Some (record { header = header; words = words_in header flit })
arrival_by flit (Err fault) = None

-- What a link brings: nothing where it is empty, or where the header has a payload count of 3.
abbrev pub arrival_of : Option Flit → Option Arrival
arrival_of None = None
arrival_of (Some flit) = arrival_by flit (header_of flit.header)

-- The queues once it has come.
abbrev pub landed_at : Option Arrival → List QueueState → List QueueState
landed_at None queues = queues
landed_at (Some arrival) queues =
    with_queue arrival.header.queue (flit_landed arrival.header.credits arrival.words) queues

-- The queue and the word count of what has come.
abbrev pub last_of : Option Arrival → Option (ℕ × ℕ)
last_of None = None
last_of (Some arrival) = Some (arrival.header.queue, arrival.header.count)

-- The interface once its entering link has brought this.
abbrev pub absorbed : Option Arrival → InterfaceState → InterfaceState
absorbed arrival interface = record interface {
  queues = landed_at arrival interface.queues;
  last = last_of arrival;
}

-- An interface sends on its leaving link.
abbrev pub interface_outputs : InterfaceState → ℕ → Bool
interface_outputs ni link = ni.leaving.0 == link

-- It receives on its entering link.
abbrev pub interface_inputs : InterfaceState → ℕ → Bool
interface_inputs ni link = ni.entering.0 == link

-- It emits what the queue sends that the cycle's slot names.
abbrev pub interface_emit : InterfaceState → ℕ → ℕ → Option Flit
interface_emit ni cycle link = emitted_by (queue_at_cycle ni.entries cycle) ni.queues

-- The interface behind that.
abbrev pub interface_after : InterfaceState → ℕ → InterfaceState
interface_after ni cycle = record ni { queues = flit_sent_by (queue_at_cycle ni.entries cycle) ni.queues }

-- The interface once it has latched these wires.
abbrev pub interface_absorb : InterfaceState → List (Option Flit) → InterfaceState
interface_absorb ni wires = absorbed (arrival_of (flit_on wires ni.entering.0)) ni
