-- The laws on components of routed sessions from which networks run, as premises.
use Rattle.std.proofs.Common.{◌≡◌, ◌≤◌, ◌<◌, ◌+◌, ◌*◌, ℕ, List, Some, length, slice_get}
use Rattle.aeth_base.specs.Limits.{max_cycles}
use Rattle.aeth_chip.specs.Chip.{ChipData, IsChip}
use Rattle.aeth_clocked.specs.Wires.{flit_on}
use Rattle.aeth_ni.specs.Limits.{queues_of_interface}
use Rattle.aeth_components.specs.{Changes.switched, Components.ComponentsState}
use Rattle.aeth_components.specs.{Components.ComponentsCycle, Components.IsComponents}
use Rattle.aeth_components.specs.{Components.first_components, declared.event.Event.Event}
use Rattle.aeth_components.specs.{declared.channel_state.ChannelState.ChannelState}
use Rattle.aeth_components.specs.{declared.making.RouterKind.TheVariants.ByHeader}
use Rattle.aeth_invariant.specs.WellRouted.{AreWellRouted}
use Rattle.aeth_invariant.specs.Carried.{Exact}
use Rattle.aeth_invariant.specs.RoutedSessions.{RoutedSessions, RoutedSession, server_at}
use Rattle.aeth_routed_sessions.specs.Wiring.{routed_sessions_on}
use Rattle.aeth_refinement.specs.{Beginning.AreEmpty, Beginning.loaded_with, Events.AreEvents}
use Rattle.aeth_refinement.specs.{Following.Follows, Places.ArePlaced, Places.HavePlaces}
use Rattle.aeth_refinement.specs.{Running.Prepares, Running.Runs, Running.Starts}
use Rattle.aeth_refinement.specs.{Served.enqueued_after, Logging.CountsFlits, Logging.HasLogged}
use Rattle.aeth_refinement.specs.{Logging.NotesLandings, View.net_of}
use Rattle.aeth_stimuli.specs.OnChip.{HaveRooms, IsOver}

-- Before the first cycle.
pub record BeginningLaws : Type 0 where
  pub chips_begin : (chip : ChipData) → IsChip chip → (rooms : List ℕ)
      → length rooms ≡ queues_of_interface * length chip.nis
      → (count : ℕ) (routed_session : ℕ → RoutedSession) (opposite : ℕ → ℕ)
      → IsOver (routed_sessions_on chip count routed_session opposite) chip
      → HaveRooms (routed_sessions_on chip count routed_session opposite) rooms
      → (channel_states : List ChannelState) (words : List ℕ)
      → ((number : ℕ) (channel_state : ChannelState)
      → slice_get channel_states number ≡ Some channel_state → channel_state.fin ≡ 0)
      → AreEmpty (routed_sessions_on chip count routed_session opposite)
      (first_components chip ByHeader rooms channel_states words)
  pub runs_begin : (sessions : RoutedSessions) → AreWellRouted sessions
      → (channel : ℕ → ℕ) (events : List Event)
      (all : ComponentsState) → AreEmpty sessions all → AreEvents sessions 0 events
      → Runs sessions channel 0 (λ c. 0) (loaded_with events all)

-- In each.
pub record CycleLaws : Type 0 where
  pub prepared : (sessions : RoutedSessions) → AreWellRouted sessions
      → (channel : ℕ → ℕ) (t : ℕ) (enqueued : ℕ → ℕ)
      (old ready : ComponentsState) → Runs sessions channel t enqueued old
      → Prepares sessions channel t old ready → Follows sessions channel t t enqueued ready
  pub follows : (sessions : RoutedSessions) → AreWellRouted sessions → (channel : ℕ → ℕ)
      (events : List Event) (t : ℕ) (enqueued : ℕ → ℕ) (old new : ComponentsState)
      → Follows sessions channel t t enqueued old → AreEvents sessions (t + 1) events
      → ComponentsCycle events t old new
      → Follows sessions channel t (t + 1)
      (enqueued_after sessions (net_of enqueued (switched events old.parts) old.wires) t) new
  pub exact : (sessions : RoutedSessions) → AreWellRouted sessions → (channel : ℕ → ℕ)
      (events : List Event) (t : ℕ) (enqueued : ℕ → ℕ) (old new : ComponentsState)
      → Follows sessions channel t t enqueued old → AreEvents sessions (t + 1) events
      → ComponentsCycle events t old new → Exact sessions t (flit_on new.wires)
  pub keep_running : (sessions : RoutedSessions) → AreWellRouted sessions
      → (channel : ℕ → ℕ) (events : List Event)
      (t : ℕ) (enqueued : ℕ → ℕ) (old ready new : ComponentsState)
      → Runs sessions channel t enqueued old → Prepares sessions channel t old ready
      → AreEvents sessions (t + 1) events → ComponentsCycle events t ready new
      → Runs sessions channel (t + 1)
      (enqueued_after sessions (net_of enqueued (switched events ready.parts) ready.wires) t) new
  pub counted : (sessions : RoutedSessions) → AreWellRouted sessions → (events : List Event) (t : ℕ)
      (old new : ComponentsState) → IsComponents old → ComponentsCycle events t old new
      → t < max_cycles → Exact sessions t (flit_on new.wires)
      → length new.wires ≡ length old.wires → CountsFlits sessions t old
      → CountsFlits sessions (t + 1) new
  pub logged : (sessions : RoutedSessions) (channel : ℕ → ℕ) (events : List Event) (t : ℕ)
      (more : ℕ → ℕ)
      (old ready new : ComponentsState) → Prepares sessions channel t old ready
      → ComponentsCycle events t ready new → Follows sessions channel t (t + 1) more new → (c : ℕ)
      → c < sessions.count → (server_at sessions c).go ≤ t
      → (server_at sessions c).go < (server_at sessions c).finish
      → ((server_at sessions c).finish ≤ t → Starts sessions channel t (channel c) → ⊥)
      → ((server_at sessions c).go < t → HasLogged sessions channel t c old)
      → HasLogged sessions channel (t + 1) c new
  pub noted : (sessions : RoutedSessions) → AreWellRouted sessions
      → (channel : ℕ → ℕ) (events : List Event)
      (t : ℕ) (enqueued : ℕ → ℕ) (old new : ComponentsState)
      → Follows sessions channel t t enqueued old → AreEvents sessions (t + 1) events
      → ComponentsCycle events t old new → (first : ℕ → ℕ)
      → HavePlaces sessions channel first t old.channel_states
      → ArePlaced sessions first (length old.landings)
      → NotesLandings sessions first t old → NotesLandings sessions first (t + 1) new
