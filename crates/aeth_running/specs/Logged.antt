-- The log of a network: what its components have done.
--
--   last_channel_states      how a channel stood at the end of each of its sessions
--   landed_below, rows_logged, session_logged      what is logged of a session
--   sessions_logged, channel_logged, channels_logged      of the sessions of a channel, and of all channels
--   logged      the log
--   network_log      the log of the network of inputs, once it has played all cycles
-- This project's own.
use Rattle.std.proofs.Common.{ℕ, suc, nat_lt, List, [], ◌∷◌, ◌++◌, count_by, drop, filter, map}
use Rattle.std.proofs.Common.{slice_index, take}
use Rattle.std.specs.List.{slice_index_or, zip}
use Rattle.aeth_report.specs.Log.{ChannelData, LogData, SessionData}
use Rattle.aeth_report.specs.declared.log.Landing.{Landing}
use Rattle.aeth_components.specs.declared.channel_state.ChannelState.{ChannelState}
use Rattle.aeth_invariant.specs.Carried.{words_from}
use Rattle.aeth_accepted.specs.Inputs.{Inputs}
use Rattle.aeth_running.specs.Network.{NetworkState, first_network, played}
use Rattle.aeth_running.specs.Routing.{Routing}
use Rattle.aeth_stimuli.specs.{Loaded.no_channel_state, Stimuli.is_over}

-- How the channel of a number stood at the end of each of its sessions: when the next one went, or
-- at the end of the run.
abbrev pub last_channel_states : NetworkState → ℕ → List ChannelState
last_channel_states all number =
    drop 1 (map (λ gone. gone.1) (filter (λ gone. is_over number gone.0)
    (zip all.stimuli.schedule.session_starts all.replaced)))
    ++ slice_index_or all.components.channel_states number no_channel_state ∷ []

module _ (cycles : ℕ) (landings : List ℕ) where
  -- How many words of a channel have landed below the end of a run. What the last cycle latches
  -- lands behind the run: it was noted, and is not logged.
  abbrev pub landed_below : ChannelState → ℕ
  landed_below channel_state =
      count_by (λ at. nat_lt at cycles)
      (words_from landings channel_state.first channel_state.landed)

  -- Rows, each with the cycle in which its word landed.
  abbrev pub rows_logged : List Landing → List ℕ → List Landing
  rows_logged (row ∷ rows) (at ∷ cycles_left) =
      record row { landed = at } ∷ rows_logged rows cycles_left
  rows_logged _ _ = []

  -- A session whose channel stood so at its end.
  abbrev pub session_logged : SessionData → ChannelState → SessionData
  session_logged first channel_state = record first {
    landed = landed_below channel_state;
    taken = channel_state.taken;
    rows = rows_logged (take (landed_below channel_state) first.rows)
        (drop channel_state.first landings);
  }

  abbrev pub sessions_logged : List SessionData → List ChannelState → List SessionData
  sessions_logged (first ∷ sessions) (channel_state ∷ channel_states) =
      session_logged first channel_state ∷ sessions_logged sessions channel_states
  sessions_logged _ _ = []

-- The channel of a number.
abbrev pub channel_logged : NetworkState → ℕ → ChannelData → ChannelData
channel_logged all number first = record first {
  sessions = sessions_logged all.log.cycles all.components.landings first.sessions
      (last_channel_states all number);
  outside = slice_index all.outside number;
}

-- The channels from a number on.
abbrev pub channels_logged : NetworkState → ℕ → List ChannelData → List ChannelData
channels_logged all number [] = []
channels_logged all number (first ∷ channels) =
    channel_logged all number first ∷ channels_logged all (suc number) channels

-- The log of a network.
unfoldable pub logged : NetworkState → LogData
logged all = record all.log {
  channels = channels_logged all 0 all.log.channels;
  flits = all.components.flits;
}

-- The log of the network of inputs, once it has played all cycles.
unfoldable pub network_log : Inputs → Routing → LogData
network_log inputs routing = logged (played inputs.cycles (first_network inputs routing))
