-- The channels of a network, each with a routed session.
--
--   IsChannelStateOf      a channel has a session, with its queues, its cycles and its words
--   IsCounted, IsFed      it has the session's counts, and what the session is given in a cycle
--   IsServed, AreServed      all of these, and so each channel that is in use
--   enqueued_after      how many words were enqueued, once source queues are refilled
-- This project's own.
use Rattle.std.proofs.Common.{◌≡◌, ◌<◌, ℕ, ◌+◌, ◌&&◌, nat_le, nat_lt, true, if◌then◌else◌, List}
use Rattle.std.proofs.Common.{Some, length, slice_get}
use Rattle.aeth_components.specs.ChannelStates.{is_open}
use Rattle.aeth_components.specs.declared.channel_state.ChannelState.{ChannelState}
use Rattle.aeth_server.specs.PrivateServer.{arrived, landed, taken}
use Rattle.aeth_invariant.specs.{Carried.words_from, Components.Net, Cycle.enqueuing}
use Rattle.aeth_invariant.specs.{RoutedSessions.RoutedSessions, RoutedSessions.IsOpenSession}
use Rattle.aeth_invariant.specs.{RoutedSessions.flow_at, RoutedSessions.server_at}
use Rattle.aeth_refinement.specs.WiredFor.{IsEndOf}

module _ (sessions : RoutedSessions) where
  -- A channel has a session: its ends are the session's, it is open in the session's cycles, and the
  -- session's values stand among the words of all sessions.
  pub record IsChannelStateOf (words : List ℕ) (c : ℕ) (channel_state : ChannelState) : Type 0 where
    pub sender : IsEndOf sessions c channel_state.sender
    pub receiver : IsEndOf sessions (sessions.opposite c) channel_state.receiver
    pub go : channel_state.go ≡ (server_at sessions c).go
    pub fin : channel_state.fin ≡ (server_at sessions c).finish
    pub values : words_from words channel_state.first (length (flow_at sessions c).values)
        ≡ (flow_at sessions c).values

  -- Its counts are those of the session: so many words were enqueued, those have landed that have
  -- in so many cycles, and so are those that were taken.
  pub record IsCounted (c enqueued lands takes : ℕ) (channel_state : ChannelState) : Type 0 where
    pub enqueued_is : channel_state.enqueued ≡ enqueued
    pub landed_is : channel_state.landed ≡ landed (server_at sessions c) lands
    pub taken_is : channel_state.taken ≡ taken (server_at sessions c) takes

  -- In a cycle it has accepted what has arrived by then, and its receiver takes as the session says.
  pub record IsFed (c t : ℕ) (channel_state : ChannelState) : Type 0 where
    pub accepted : channel_state.accepted ≡ arrived (server_at sessions c) (t + 1)
    pub pull : channel_state.pull ≡ (server_at sessions c).pull t

  pub record IsServed (words : List ℕ) (c t enqueued lands takes : ℕ)
      (channel_state : ChannelState) : Type 0 where
    pub of : IsChannelStateOf words c channel_state
    pub counted : IsCounted c enqueued lands takes channel_state
    pub fed : IsFed c t channel_state

  -- The channel of a number, for a session.
  pub record HasChannelState (words : List ℕ) (number c t enqueued lands takes : ℕ)
      (channel_states : List ChannelState) :
      Type 0 where
    pub channel_state : ChannelState
    pub at : slice_get channel_states number ≡ Some channel_state
    pub served : IsServed words c t enqueued lands takes channel_state

  -- A channel that is in use is that of some session.
  pub record IsInUse (channel : ℕ → ℕ) (t number : ℕ) : Type 0 where
    pub session : ℕ
    pub known : session < sessions.count
    pub going : IsOpenSession sessions session t
    pub place : channel session ≡ number

  -- In a cycle each session in use has its channel, and each channel in use is such a session's.
  pub record AreServed (channel : ℕ → ℕ) (words : List ℕ) (t lands takes : ℕ) (enqueued : ℕ → ℕ)
      (channel_states : List ChannelState) : Type 0 where
    pub own : (c : ℕ) → c < sessions.count → IsOpenSession sessions c t
        → HasChannelState words (channel c) c t (enqueued c) lands takes channel_states
    pub only : (number : ℕ) (channel_state : ChannelState)
        → slice_get channel_states number ≡ Some channel_state
        → is_open channel_state t ≡ true → IsInUse channel t number

  -- The words of a session that were enqueued, once source queues are refilled.
  abbrev pub enqueued_after : Net → ℕ → ℕ → ℕ
  enqueued_after net t c =
      if nat_le (server_at sessions c).go t && nat_lt t (server_at sessions c).finish
      then net.enqueued c + enqueuing sessions net t c else net.enqueued c
