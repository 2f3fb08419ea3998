-- The log of a run: what each session of each channel brought, word by word, and how many flits each
-- link carried.
--
--   counted_to      the cycles of a session that a log counts
--   due_of, landing_of      when a word is due, and what a log tells of it
--   session_log, flow_log      what a log tells of a private server, and of a flow
--   is_accepted, outside_of, channel_log      the words outside of all sessions, and what a log tells
--                                             of a channel
--   flits_over      how many flits a link carries
--   log_of      the log
-- This project's own.
use Rattle.std.proofs.Common.{ℕ, ◌+◌, ◌==◌, min, nat_lt, not, Bool, List, count_by, filter, length}
use Rattle.std.proofs.Common.{map, slice_index, ◌&&◌}
use Rattle.std.specs.List.{list_any, range_with_len}
use Rattle.aeth_base.specs.declared.ids.Channel.{Channel}
use Rattle.aeth_server.specs.FinishTimes.{due_cycle}
use Rattle.aeth_server.specs.Landing.{due_time, landing_cycle}
use Rattle.aeth_server.specs.PrivateServer.{PrivateServer, accepted, arrived, landed, taken}
use Rattle.aeth_trace.specs.{Words.words_on, declared.words.WordRow.WordRow}
use Rattle.aeth_report.specs.{declared.log.Landing.Landing, Channels.channels_of, Carries.carries}
use Rattle.aeth_report.specs.{Flows.Flow, Flows.Run, Flows.flows_on, Flows.is_within}
use Rattle.aeth_report.specs.{Log.ChannelData, Log.LogData, Log.SessionData}

-- A log counts the cycles of a session up to its finish, and those of the run.
abbrev pub counted_to : ℕ → PrivateServer → ℕ
counted_to cycles server = min server.finish cycles

-- The cycle by which the i-th word is due.
abbrev pub due_of : PrivateServer → ℕ → ℕ
due_of server i = due_cycle server.shape.rate (due_time server i)

-- The landing of the word behind the first k, of words with these values.
abbrev pub landing_of : ℕ → PrivateServer → List ℕ → ℕ → Landing
landing_of cycles server values k = record {
  offered = slice_index (accepted server) k;
  landed = landing_cycle server (counted_to cycles server) (k + 1);
  due = due_of server (k + 1);
  value = slice_index values k;
}

-- What a log of so many cycles tells of a private server, of words with these values.
abbrev pub session_log : ℕ → PrivateServer → List ℕ → SessionData
session_log cycles server values =
    let count = landed server (counted_to cycles server) in
    record {
      go = server.go;
      ended = nat_lt server.finish cycles;
      offered = arrived server cycles;
      landed = count;
      taken = taken server (counted_to cycles server);
      rows = map (landing_of cycles server values) (range_with_len 0 count);
    }

-- What it tells of a flow.
abbrev pub flow_log : ℕ → Flow → SessionData
flow_log cycles flow = session_log cycles flow.server flow.values

-- Whether a flow accepts a word.
abbrev pub is_accepted : WordRow → Flow → Bool
is_accepted row flow = is_within flow.server.go flow.server.until row

-- How many of some words are offered in the cycles of the run, and accepted by none of some flows.
abbrev pub outside_of : ℕ → List Flow → List WordRow → ℕ
outside_of cycles flows words =
    count_by (λ row. nat_lt row.cycle cycles && not (list_any (is_accepted row) flows)) words

-- What a log tells of a channel: of its sessions those that go before the run ends.
abbrev pub channel_log : Run → Channel → ChannelData
channel_log run channel =
    let flows = flows_on run channel in
    record {
      channel = channel;
      sessions = map (flow_log run.cycles)
          (filter (λ flow. nat_lt flow.server.go run.cycles) flows);
      outside = outside_of run.cycles flows (words_on run.words channel);
    }

-- In how many cycles of the run a link carries a flit.
abbrev pub flits_over : Run → ℕ → ℕ
flits_over run l =
    count_by (λ t. not (length (carries run l t) == 0)) (range_with_len 0 run.cycles)

-- The log of a run.
abbrev pub log_of : Run → LogData
log_of run = record {
  cycles = run.cycles;
  channels = map (channel_log run) (channels_of run.design.groups.connections);
  flits = map (flits_over run) (range_with_len 0 (length run.design.chip.links));
}
