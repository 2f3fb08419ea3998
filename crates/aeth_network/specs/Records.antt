-- What the log of a run is made from, apart from its inputs.
--
--   channel_from, log_from      a channel with its sessions, of which nothing has landed yet, and the log
--   added_by      the channel of a number with more sessions
--   AreOffered, IsFresh      words of a run, and sessions whose words are there
-- This project's own.
use Rattle.std.proofs.Common.{◌≡◌, ◌≤◌, ◌+◌, ◌++◌, ℕ, All, List, length, map, replicate}
use Rattle.aeth_base.specs.{Limits.max_cycles, declared.ids.Channel.Channel}
use Rattle.aeth_chip.specs.Chip.{ChipData}
use Rattle.aeth_app.specs.App.{AppData}
use Rattle.aeth_server.specs.{ChannelShape.IsShapeInRange, Limits.max_session_words}
use Rattle.aeth_trace.specs.{Channels.channel_number, Words.words_on}
use Rattle.aeth_trace.specs.{declared.words.WordRow.WordRow}
use Rattle.aeth_report.specs.{Channels.channels_of, Log.ChannelData, Log.LogData}
use Rattle.aeth_schedule.specs.declared.session_start.SessionStart.{SessionStart}
use Rattle.aeth_running.specs.FirstLog.{first_session}
use Rattle.aeth_stimuli.specs.Stimuli.{session_starts_over}

-- A channel with those of some sessions that go over it.
abbrev pub channel_from : List WordRow → ℕ → List SessionStart → Channel → ChannelData
channel_from words cycles session_starts channel = record {
  channel = channel;
  sessions = map (first_session words cycles)
      (session_starts_over (channel_number channel) session_starts);
  outside = 0;
}

-- The log of a chip and an application in a run of so many cycles, with some sessions.
abbrev pub log_from : ChipData → AppData → List WordRow → ℕ → List SessionStart → LogData
log_from chip app words cycles session_starts = record {
  cycles = cycles;
  channels = map (channel_from words cycles session_starts)
      (channels_of (length app.connections));
  flits = replicate (length chip.links) 0;
}

-- The channel of a number, with those of some more sessions that go over it.
abbrev pub added_by : List WordRow → ℕ → List SessionStart → ℕ → ChannelData → ChannelData
added_by words cycles session_starts number channel = record channel {
  sessions = channel.sessions
      ++ map (first_session words cycles) (session_starts_over number session_starts);
}

-- Words that are offered within the longest run, and no more than a session has at most.
pub record AreOffered (words : List WordRow) : Type 0 where
  pub few : length words ≤ max_session_words
  pub cycles : All (λ row. row.cycle ≤ max_cycles) words

-- The words that a session accepts are there, its shape has due times, and none is accepted yet.
pub record IsFresh (words : List WordRow) (session_start : SessionStart) : Type 0 where
  pub shape : IsShapeInRange session_start.shape
  pub there : session_start.before + session_start.count
      ≤ length (words_on words session_start.channel)
  pub none : session_start.channel_state.accepted ≡ 0
