-- The phases of a cycle in which each channel has its turn: refilling, and taking.
--
--   left_of, refilled          a channel's words are enqueued at its source queue
--   asked_of, pulled           its receiver takes
--   Moment, turned, in_turn    the turns of all channels
--
-- This project's own.
use Rattle.std.proofs.Common.{ℕ, ◌+◌, ◌-◌, min, if◌then◌else◌, List, length, fold, slice_get}
use Rattle.std.proofs.Common.{slice_set, slice_range, Option, Some, None}
use Rattle.std.specs.List.{range_with_len}
use Rattle.aeth_router.specs.declared.part.Part.{Part}
use Rattle.aeth_components.specs.{declared.channel_state.ChannelState.ChannelState, Changes.at_end}
use Rattle.aeth_components.specs.{Changes.told_at, ChannelStates.is_open, Queues.dequeued}
use Rattle.aeth_components.specs.{Queues.dequeues, Queues.filled, Queues.fits}

-- The accepted words of a session that weren't enqueued.
abbrev pub left_of : List ℕ → ChannelState → List ℕ
left_of words channel_state =
    slice_range words (channel_state.first + channel_state.enqueued)
    (channel_state.first + channel_state.accepted)

-- A session enqueues its words.
abbrev pub enqueued_by : List ℕ → List Part → ChannelState → List Part × ChannelState
enqueued_by left parts channel_state = (
  at_end channel_state.sender (filled left) parts,
  record channel_state {
    enqueued =
        channel_state.enqueued + told_at channel_state.sender (fits left) parts;
  },
)

-- So it does where it is open in the cycle.
abbrev pub refilled : List ℕ → ℕ → List Part → ChannelState → List Part × ChannelState
refilled words cycle parts channel_state =
    if is_open channel_state cycle then enqueued_by (left_of words channel_state) parts
    channel_state else (parts, channel_state)

-- How many words a session's receiver takes at most: no more than it may, and than have landed.
abbrev pub asked_of : ChannelState → ℕ
asked_of channel_state = min channel_state.pull (channel_state.landed - channel_state.taken)

-- A session's receiver takes.
abbrev pub dequeued_by : List Part → ChannelState → List Part × ChannelState
dequeued_by parts channel_state = (
  at_end channel_state.receiver (dequeued (asked_of channel_state)) parts,
  record channel_state {
    taken =
        channel_state.taken
        + told_at channel_state.receiver (dequeues (asked_of channel_state)) parts;
  },
)

-- So it does where the session is open in the cycle.
abbrev pub pulled : ℕ → List Part → ChannelState → List Part × ChannelState
pulled cycle parts channel_state = if is_open channel_state cycle then dequeued_by parts
    channel_state else (parts, channel_state)

-- The components and the channels, at one moment within a cycle.
pub record Moment : Type 0 where
  pub parts : List Part
  pub channel_states : List ChannelState

-- One channel has had its turn.
abbrev pub turned_by : Moment → ℕ → List Part × ChannelState → Moment
turned_by moment number done =
    record { parts = done.0; channel_states = slice_set moment.channel_states number done.1 }

-- So it has where there is one of this number.
abbrev pub turned_at : (List Part → ChannelState → List Part × ChannelState) → Moment → ℕ
    → Option ChannelState → Moment
turned_at turn moment number None = moment
turned_at turn moment number (Some channel_state) =
    turned_by moment number (turn moment.parts channel_state)

-- The channel of a number has had its turn.
abbrev pub turned : (List Part → ChannelState → List Part × ChannelState) → Moment → ℕ → Moment
turned turn moment number = turned_at turn moment number (slice_get moment.channel_states number)

-- All channels have, in their order.
abbrev pub in_turn : (List Part → ChannelState → List Part × ChannelState) → Moment → Moment
in_turn turn moment = fold (turned turn) moment (range_with_len 0 (length moment.channel_states))
