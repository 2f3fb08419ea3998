-- Components before the first cycle.
-- This project's own.
use Rattle.std.proofs.Common.{◌≡◌, ◌≤◌, ◌<◌, ℕ, List, None, Some, length, slice_get}
use Rattle.aeth_clocked.specs.Wires.{flit_on}
use Rattle.aeth_ni.specs.Queue.{empty_queue}
use Rattle.aeth_components.specs.{Changes.switched, Components.ComponentsState}
use Rattle.aeth_components.specs.{Components.wirings_of, Wirings.IsWired, Switching.entry_of}
use Rattle.aeth_components.specs.{View.queue_of, declared.event.Event.Event}
use Rattle.aeth_components.specs.{declared.channel_state.ChannelState.ChannelState}
use Rattle.aeth_invariant.specs.RoutedSessions.{RoutedSessions, server_at}
use Rattle.aeth_refinement.specs.{WiredFor.IsWiredFor, View.HaveLatched}

-- The queue from which a session sends is empty, with room for the buffer of what lands there.
pub record HasRoom (sessions : RoutedSessions) (all : ComponentsState) (c : ℕ) : Type 0 where
  pub room : ℕ
  pub is : queue_of all.parts (sessions.routed_session c).ni (sessions.routed_session c).queue
      ≡ empty_queue room
  pub enough : (server_at sessions (sessions.opposite c)).buffer ≤ room

-- The components of routed sessions hold nothing, and no channel is ever open.
pub record AreEmpty (sessions : RoutedSessions) (all : ComponentsState) : Type 0 where
  pub wired : IsWired (wirings_of all) (length all.wires)
  pub wired_for : IsWiredFor sessions (wirings_of all) (length all.wires)
  pub latched : HaveLatched all.parts all.wires
  pub wires : (l : ℕ) → flit_on all.wires l ≡ None
  pub entries : (n x : ℕ) → entry_of all.parts n x ≡ None
  pub queues : (c : ℕ) → c < sessions.count → HasRoom sessions all c
  pub channel_states : (number : ℕ) (channel_state : ChannelState)
      → slice_get all.channel_states number ≡ Some channel_state → channel_state.fin ≡ 0

-- Events are done before the first cycle.
abbrev pub loaded_with : List Event → ComponentsState → ComponentsState
loaded_with events all = record all { parts = switched events all.parts }
