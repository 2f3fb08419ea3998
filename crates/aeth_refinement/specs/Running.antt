-- Components between two cycles, and what is done to their channels before the next one.
--
--   HasCounts      a channel has a session, with its counts
--   Runs      what holds before a cycle
--   HasStart, Prepares      sessions that go are loaded, and each is given what the cycle brings
-- This project's own.
use Rattle.std.proofs.Common.{◌≡◌, ◌≤◌, ◌<◌, ◌⊎◌, ℕ, ◌+◌, true, List, Some, length, map, slice_get}
use Rattle.aeth_components.specs.{Components.ComponentsState, Components.wirings_of}
use Rattle.aeth_components.specs.{Wirings.IsWired, ChannelStates.is_open}
use Rattle.aeth_components.specs.{declared.channel_state.ChannelState.ChannelState}
use Rattle.aeth_server.specs.PrivateServer.{arrived}
use Rattle.aeth_invariant.specs.RoutedSessions.{RoutedSessions, IsOpenSession, server_at}
use Rattle.aeth_invariant.specs.Standing.{Stands}
use Rattle.aeth_refinement.specs.{WiredFor.IsWiredFor, Routed.AreRoutedBy, Routed.without_table}
use Rattle.aeth_refinement.specs.{Served.IsCounted, Served.IsFed, Served.IsInUse}
use Rattle.aeth_refinement.specs.{Served.IsChannelStateOf, View.HaveLatched, View.net_of}

module _ (sessions : RoutedSessions) (channel : ℕ → ℕ) where
  -- The channel of a session is its own, with its counts.
  pub record HasCounts (words : List ℕ) (c enqueued lands takes : ℕ)
      (channel_states : List ChannelState) : Type 0
    where
      pub channel_state : ChannelState
      pub at : slice_get channel_states (channel c) ≡ Some channel_state
      pub of : IsChannelStateOf sessions words c channel_state
      pub counted : IsCounted sessions c enqueued lands takes channel_state

  -- Before cycle t. Each session that went before and is in use has its channel, with the counts
  -- after t cycles. No other channel is open, and those that were ever loaded went before. Of a
  -- session that doesn't go yet no word was enqueued.
  pub record Runs (t : ℕ) (enqueued : ℕ → ℕ) (all : ComponentsState) : Type 0 where
    pub wired : IsWired (wirings_of all) (length all.wires)
    pub wired_for : IsWiredFor sessions (wirings_of all) (length all.wires)
    pub latched : HaveLatched all.parts all.wires
    pub stands : Stands sessions t t (net_of enqueued all.parts all.wires)
    pub going : (c : ℕ) → c < sessions.count → IsOpenSession sessions c t
        → (server_at sessions c).go < t
        → HasCounts all.words c (enqueued c) (t + 1) t all.channel_states
    pub only : (number : ℕ) (channel_state : ChannelState)
        → slice_get all.channel_states number ≡ Some channel_state
        → is_open channel_state t ≡ true → IsInUse sessions channel t number
    pub gone : (number : ℕ) (channel_state : ChannelState)
        → slice_get all.channel_states number ≡ Some channel_state
        → (channel_state.go < t) ⊎ (channel_state.fin ≡ 0)
    pub fresh : (c : ℕ) → c < sessions.count → t ≤ (server_at sessions c).go → enqueued c ≡ 0

  -- The channel of a session is loaded, of which nothing is done.
  pub record HasStart (words : List ℕ) (c t : ℕ) (channel_states : List ChannelState) : Type 0 where
    pub channel_state : ChannelState
    pub at : slice_get channel_states (channel c) ≡ Some channel_state
    pub of : IsChannelStateOf sessions words c channel_state
    pub fed : IsFed sessions c t channel_state
    pub enqueued : channel_state.enqueued ≡ 0
    pub landed : channel_state.landed ≡ 0
    pub taken : channel_state.taken ≡ 0

  -- A session goes in a cycle over the channel of a number.
  pub record Starts (t number : ℕ) : Type 0 where
    pub session : ℕ
    pub known : session < sessions.count
    pub going : IsOpenSession sessions session t
    pub goes : (server_at sessions session).go ≡ t
    pub place : channel session ≡ number

  -- What is done before cycle t. Tables of routers become those of the sessions that are in them then, and
  -- nothing else of components changes. Sessions that go are loaded; each that went before accepts what
  -- has arrived by then, and its receiver takes as it says; but for these two numbers, a channel that
  -- isn't loaded stays.
  pub record Prepares (t : ℕ) (old ready : ComponentsState) : Type 0 where
    pub parts : map without_table ready.parts ≡ map without_table old.parts
    pub routed : AreRoutedBy sessions t ready.parts
    pub wires : ready.wires ≡ old.wires
    pub words : ready.words ≡ old.words
    pub landings : ready.landings ≡ old.landings
    pub flits : ready.flits ≡ old.flits
    pub starts : (c : ℕ) → c < sessions.count → IsOpenSession sessions c t
        → (server_at sessions c).go ≡ t
        → HasStart ready.words c t ready.channel_states
    pub stays : (c : ℕ) (channel_state : ChannelState) → c < sessions.count
        → IsOpenSession sessions c t
        → (server_at sessions c).go < t
        → slice_get old.channel_states (channel c) ≡ Some channel_state
        → slice_get ready.channel_states (channel c)
        ≡ Some (record channel_state {
          accepted = arrived (server_at sessions c) (t + 1);
          pull = (server_at sessions c).pull t;
        })
    pub count : length ready.channel_states ≡ length old.channel_states
    pub keeps : (number : ℕ) (channel_state : ChannelState)
        → slice_get old.channel_states number ≡ Some channel_state
        → Starts t number
        ⊎ ((after : ChannelState) × (slice_get ready.channel_states number ≡ Some after)
        × (after ≡ record channel_state { accepted = after.accepted; pull = after.pull }))
