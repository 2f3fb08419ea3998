-- What is logged of the sessions of channels, apart from a network.
--
--   replaced_on, gone_by      how the channel of a number stood before each of its sessions went, and
--       how many went
--   with_logged, with_next      one session has been logged, and the last of so many
--   followed_by      a channel whose sessions are logged that others have followed
--   ended_with, last_by      a channel whose last session is logged
--   channel_by, channels_by      a channel, and all from a number on
-- This project's own.
use Rattle.std.proofs.Common.{ℕ, zero, suc, ◌+◌, ◌-◌, List, [], ◌∷◌, ◌++◌, drop, filter, length}
use Rattle.std.proofs.Common.{map, slice_index, take}
use Rattle.std.specs.List.{slice_index_or, zip}
use Rattle.aeth_report.specs.Log.{ChannelData, SessionData}
use Rattle.aeth_components.specs.declared.channel_state.ChannelState.{ChannelState}
use Rattle.aeth_schedule.specs.declared.session_start.SessionStart.{SessionStart}
use Rattle.aeth_stimuli.specs.{Loaded.no_channel_state, Stimuli.is_over}
use Rattle.aeth_running.specs.Logged.{session_logged, sessions_logged}
use Rattle.aeth_network.specs.ByNumber.{each_by}

-- How the channel of a number stood before each of its sessions went.
abbrev pub replaced_on : ℕ → List SessionStart → List ChannelState → List ChannelState
replaced_on number session_starts replaced =
    map (λ gone. gone.1) (filter (λ gone. is_over number gone.0) (zip session_starts replaced))

-- How many sessions of the channel of a number have gone, whatever was counted before.
abbrev pub gone_by : List SessionStart → List ChannelState → ℕ → ℕ → ℕ
gone_by session_starts replaced number was = length (replaced_on number session_starts replaced)

module _ (cycles : ℕ) (landings : List ℕ) where
  -- The session at a place is logged, if there is one.
  abbrev pub with_logged : ℕ → ChannelState → List SessionData → List SessionData
  with_logged place channel_state [] = []
  with_logged zero channel_state (session ∷ sessions) =
      session_logged cycles landings session channel_state ∷ sessions
  with_logged (suc place) channel_state (session ∷ sessions) =
      session ∷ with_logged place channel_state sessions

  -- The last of so many sessions is logged, if there is one.
  abbrev pub with_next : ℕ → ChannelState → List SessionData → List SessionData
  with_next zero channel_state sessions = sessions
  with_next (suc place) channel_state sessions = with_logged place channel_state sessions

  -- Those sessions of the channel of a number are logged that others have followed.
  abbrev pub followed_by : List SessionStart → List ChannelState → ℕ → ChannelData → ChannelData
  followed_by session_starts replaced number first =
      let channel_states = drop 1 (replaced_on number session_starts replaced) in
      record first {
        sessions = sessions_logged cycles landings first.sessions channel_states
            ++ drop (length channel_states) first.sessions;
      }

  -- The last of so many sessions of a channel is logged, and there are no more.
  abbrev pub ended_with : ℕ → ChannelState → ℕ → ChannelData → ChannelData
  ended_with gone channel_state outside first = record first {
    sessions = take (gone - 1 + 1) (with_logged (gone - 1) channel_state first.sessions);
    outside = outside;
  }

  -- That of the channel of a number.
  abbrev pub last_by : List ℕ → List ChannelState → List ℕ → ℕ → ChannelData → ChannelData
  last_by gone channel_states outside number first =
      ended_with (slice_index gone number) (slice_index_or channel_states number no_channel_state)
      (slice_index outside number) first

  -- The channel of a number.
  abbrev pub channel_by : List SessionStart → List ChannelState → List ChannelState → List ℕ → ℕ
      → ChannelData
      → ChannelData
  channel_by session_starts replaced channel_states outside number first = record first {
    sessions = sessions_logged cycles landings first.sessions
        (drop 1 (replaced_on number session_starts replaced)
        ++ slice_index_or channel_states number no_channel_state ∷ []);
    outside = slice_index outside number;
  }

  -- The channels from a number on.
  abbrev pub channels_by : List SessionStart → List ChannelState → List ChannelState → List ℕ → ℕ
      → List ChannelData
      → List ChannelData
  channels_by session_starts replaced channel_states outside number channels =
      each_by (channel_by session_starts replaced channel_states outside) number channels
