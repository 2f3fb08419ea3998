-- The log of a run of which nothing has landed yet.
--
--   rows_of, first_row, first_rows      the words of a session, and a row of the log for each
--   first_session, first_channel, first_log      a session, a channel, and the log
-- This project's own.
use Rattle.std.proofs.Common.{ℕ, ◌+◌, nat_lt, List, drop, length, map, replicate, slice_index, take}
use Rattle.std.specs.List.{range_with_len}
use Rattle.aeth_base.specs.declared.ids.Channel.{Channel}
use Rattle.aeth_server.specs.{ChannelShape.shape_of, FinishTimes.due_cycle, FinishTimes.finish_time}
use Rattle.aeth_server.specs.{Shape.channel_latency}
use Rattle.aeth_trace.specs.{Channels.channel_number, Words.words_on}
use Rattle.aeth_trace.specs.{declared.words.WordRow.WordRow}
use Rattle.aeth_report.specs.{Channels.channels_of, Log.ChannelData, Log.LogData, Log.SessionData}
use Rattle.aeth_report.specs.{declared.log.Landing.Landing}
use Rattle.aeth_accepted.specs.Inputs.{Inputs}
use Rattle.aeth_schedule.specs.SessionStarts.{session_starts_of}
use Rattle.aeth_schedule.specs.declared.session_start.SessionStart.{SessionStart}
use Rattle.aeth_stimuli.specs.Stimuli.{session_starts_over}

module _ (words : List WordRow) where
  -- The words that a session accepts within the run.
  abbrev pub rows_of : SessionStart → List WordRow
  rows_of session_start =
      take session_start.count (drop session_start.before (words_on words session_start.channel))

  -- A row for the word behind the first k of them, as of which none has landed.
  abbrev pub first_row : SessionStart → ℕ → Landing
  first_row session_start k =
      let rows = rows_of session_start in
      let shape = shape_of session_start.shape in
      record {
        offered = slice_index (map (λ row. row.cycle) rows) k;
        landed = 0;
        due = due_cycle shape.rate (finish_time shape.size shape.rate (channel_latency shape)
            (map (λ row. row.cycle) rows) (k + 1));
        value = slice_index (map (λ row. row.value) rows) k;
      }

  -- A session in a run of so many cycles, of which nothing has landed yet.
  abbrev pub first_session : ℕ → SessionStart → SessionData
  first_session cycles session_start = record {
    go = session_start.channel_state.go;
    ended = nat_lt session_start.channel_state.fin cycles;
    offered = session_start.count;
    landed = 0;
    taken = 0;
    rows = map (first_row session_start) (range_with_len 0 session_start.count);
  }

-- A channel with its sessions.
abbrev pub first_channel : Inputs → Channel → ChannelData
first_channel inputs channel = record {
  channel = channel;
  sessions = map (first_session inputs.words inputs.cycles)
      (session_starts_over (channel_number channel) (session_starts_of inputs));
  outside = 0;
}

-- The log of a run of which nothing has landed yet.
abbrev pub first_log : Inputs → LogData
first_log inputs = record {
  cycles = inputs.cycles;
  channels = map (first_channel inputs) (channels_of (length inputs.app.connections));
  flits = replicate (length inputs.chip.links) 0;
}
