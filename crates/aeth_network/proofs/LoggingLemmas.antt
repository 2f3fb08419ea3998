-- What is logged, session by session, row by row, and channel by channel.
use Rattle.std.proofs.Common.{◌≡◌, ◌≤◌, ◌<◌, ◌+◌, ◌-◌, ◌++◌, ℕ, zero, suc, List, [], ◌∷◌, ap, arith}
use Rattle.std.proofs.Common.{drop, get_or, length, refl, set, take, sym, slice_index, length-drop}
use Rattle.std.proofs.lemmas.List.{drop_all, length_push}
use Rattle.std.specs.List.{slice_index_or}
use Rattle.aeth_stimuli.specs.Loaded.{no_channel_state}
use Rattle.aeth_components.specs.declared.channel_state.ChannelState.{ChannelState}
use Rattle.aeth_report.specs.{Log.ChannelData, Log.SessionData, declared.log.Landing.Landing}
use Rattle.aeth_running.specs.Network.{NetworkState}
use Rattle.aeth_running.specs.Logged.{channel_logged, channels_logged, logged, rows_logged}
use Rattle.aeth_running.specs.Logged.{session_logged, sessions_logged}
use Rattle.aeth_schedule.specs.declared.session_start.SessionStart.{SessionStart}
use Rattle.aeth_network.specs.ByNumber.{each_by}
use Rattle.aeth_network.specs.Logging.{channel_by, channels_by, ended_with, followed_by, gone_by}
use Rattle.aeth_network.specs.Logging.{last_by, replaced_on, with_next, with_logged}
use Rattle.aeth_network.proofs.ByNumberLemmas.{each-twice, get-each}

-- One row more is logged.
logged_row_at : (cycles : ℕ) (all : List ℕ) (rows : List Landing) (landings : List ℕ) (i : ℕ)
    (default : Landing)
    → i < length rows → i < length landings
    → set (rows_logged cycles all (take i rows) landings ++ drop i rows) i
    (record (get_or (rows_logged cycles all (take i rows) landings ++ drop i rows) i default) {
      landed = get_or landings i 0;
    }) ≡ rows_logged cycles all (take (suc i) rows) landings ++ drop (suc i) rows
logged_row_at cycles all [] landings i default within there = absurd (omega arith)
logged_row_at cycles all (row ∷ rows) [] i default within there = absurd (omega arith)
logged_row_at cycles all (row ∷ rows) (at ∷ landings) zero default within there = refl
logged_row_at cycles all (row ∷ rows) (at ∷ landings) (suc i) default within there =
    ap (λ (list : List Landing). record row { landed = at } ∷ list)
    (logged_row_at cycles all rows landings i default (omega arith) (omega arith))

pub logged-row : (cycles : ℕ) (all : List ℕ) (rows now : List Landing) (landings : List ℕ)
    (i at : ℕ)
    (default next : Landing)
    → i < length rows → i < length landings → now ≡ rows_logged cycles all (take i rows) landings ++
    drop i rows
    → at ≡ get_or landings i 0 → next ≡ record (get_or now i default) { landed = at }
    → set now i next ≡ rows_logged cycles all (take (i + 1) rows) landings ++ drop (i + 1) rows
logged-row cycles all rows now landings i at default next within there is here to =
    let more : i + 1 ≡ suc i = omega arith in
    rw (to, here, is, more) (logged_row_at cycles all rows landings i default within there)

-- Once all are, none is left.
pub logged-rows : (cycles : ℕ) (all : List ℕ) (rows : List Landing) (landings : List ℕ) (size : ℕ)
    → length rows ≤ size
    → rows_logged cycles all (take size rows) landings ++ drop size rows
    ≡ rows_logged cycles all rows
    landings
logged-rows cycles all [] landings zero within = refl
logged-rows cycles all [] landings (suc size) within = refl
logged-rows cycles all (row ∷ rows) landings zero within = absurd (omega arith)
logged-rows cycles all (row ∷ rows) [] (suc size) within = drop_all size rows (omega arith)
logged-rows cycles all (row ∷ rows) (at ∷ landings) (suc size) within =
    ap (λ (list : List Landing). record row { landed = at } ∷ list)
    (logged-rows cycles all rows landings size (omega arith))

module _ (cycles : ℕ) (landings : List ℕ) where
  -- Where no session has ended, none is logged.
  pub sessions_logged-none : (sessions : List SessionData)
      → sessions_logged cycles landings sessions [] ≡ []
  sessions_logged-none [] = refl
  sessions_logged-none (session ∷ sessions) = refl

  -- One session more is logged.
  pub logged-more : (sessions : List SessionData) (channel_states : List ChannelState)
      (channel_state : ChannelState)
      → with_logged cycles landings (length channel_states) channel_state
      (sessions_logged cycles landings sessions channel_states
      ++ drop (length channel_states) sessions)
      ≡ sessions_logged cycles landings sessions (channel_states ++ channel_state ∷ [])
      ++ drop (length (channel_states ++ channel_state ∷ [])) sessions
  logged-more [] [] channel_state = refl
  logged-more [] (first ∷ channel_states) channel_state = refl
  logged-more (session ∷ sessions) [] channel_state =
      ap (λ (rest : List SessionData). session_logged cycles landings session channel_state
      ∷ (rest ++ sessions)) (sym (sessions_logged-none sessions))
  logged-more (session ∷ sessions) (first ∷ channel_states) channel_state =
      ap (λ (rest : List SessionData). session_logged cycles landings session first ∷ rest)
      (logged-more sessions channel_states channel_state)

  -- Those that are logged, alone.
  pub logged-alone : (sessions : List SessionData) (channel_states : List ChannelState)
      → take (length channel_states) (sessions_logged cycles landings sessions channel_states
      ++ drop (length channel_states) sessions)
      ≡ sessions_logged cycles landings sessions channel_states
  logged-alone [] [] = refl
  logged-alone [] (first ∷ channel_states) = refl
  logged-alone (session ∷ sessions) [] = refl
  logged-alone (session ∷ sessions) (first ∷ channel_states) =
      ap (λ (rest : List SessionData). session_logged cycles landings session first ∷ rest)
      (logged-alone sessions channel_states)

  -- The last one is logged, and there are no more.
  pub logged-last : (sessions : List SessionData) (channel_states : List ChannelState)
      (channel_state : ChannelState) (count : ℕ)
      → count ≡ length channel_states
      → take (count + 1) (with_logged cycles landings count channel_state
      (sessions_logged cycles landings sessions channel_states
      ++ drop (length channel_states) sessions))
      ≡ sessions_logged cycles landings sessions (channel_states ++ channel_state ∷ [])
  logged-last sessions channel_states channel_state count is =
      let size = length_push channel_states channel_state in
      let all : count + 1 ≡ length (channel_states ++ channel_state ∷ []) = omega arith in
      rw (all, is, logged-more sessions channel_states channel_state)
      (logged-alone sessions (channel_states ++ channel_state ∷ []))

  -- Another session goes, and logs the one before, where there was one.
  pub followed-more : (sessions : List SessionData) (past : List ChannelState)
      (channel_state : ChannelState)
      → with_next cycles landings (length past) channel_state
      (sessions_logged cycles landings sessions (drop 1 past)
      ++ drop (length (drop 1 past)) sessions)
      ≡ sessions_logged cycles landings sessions (drop 1 (past ++ channel_state ∷ []))
      ++ drop (length (drop 1 (past ++ channel_state ∷ []))) sessions
  followed-more sessions [] channel_state = refl
  followed-more sessions (first ∷ past) channel_state = logged-more sessions past channel_state

  -- The session at a place is logged, if there is one.
  pub with_logged-there : (sessions : List SessionData) (place : ℕ) (channel_state : ChannelState)
      (default : SessionData) → place < length sessions
      → set sessions place
      (session_logged cycles landings (get_or sessions place default) channel_state)
      ≡ with_logged cycles landings place channel_state sessions
  with_logged-there [] place channel_state default within = absurd (omega arith)
  with_logged-there (session ∷ sessions) zero channel_state default within = refl
  with_logged-there (session ∷ sessions) (suc place) channel_state default within =
      ap (λ (rest : List SessionData). session ∷ rest)
      (with_logged-there sessions place channel_state default (omega arith))

  pub with_logged-past : (sessions : List SessionData) (place : ℕ) (channel_state : ChannelState)
      → length sessions ≤ place
      → with_logged cycles landings place channel_state sessions ≡ sessions
  with_logged-past [] place channel_state past = refl
  with_logged-past (session ∷ sessions) zero channel_state past = absurd (omega arith)
  with_logged-past (session ∷ sessions) (suc place) channel_state past =
      ap (λ (rest : List SessionData). session ∷ rest)
      (with_logged-past sessions place channel_state (omega arith))

  module _ (session_starts : List SessionStart) (replaced channel_states : List ChannelState)
      (outside : List ℕ) where
    -- A channel whose sessions are logged but for the last is logged with it.
    logged-one : (number gone : ℕ) (channel_state : ChannelState) (more : ℕ) (channel : ChannelData)
        → gone ≡ length (replaced_on number session_starts replaced)
        → ended_with cycles landings gone channel_state more
        (followed_by cycles landings session_starts replaced number channel)
        ≡ record channel {
          sessions = sessions_logged cycles landings channel.sessions
              (drop 1 (replaced_on number session_starts replaced) ++ channel_state ∷ []);
          outside = more;
        }
    logged-one number gone channel_state more channel is =
        let past = replaced_on number session_starts replaced in
        let size = length-drop 1 past in
        let count : gone - 1 ≡ length (drop 1 past) = omega arith in
        ap (λ (list : List SessionData). record channel { sessions = list; outside = more })
        (logged-last channel.sessions (drop 1 past) channel_state (gone - 1) count)

    -- So are all.
    pub logged-all : (channels : List ChannelData) (was : List ℕ) → length was ≡ length channels
        → each_by (last_by cycles landings (each_by (gone_by session_starts replaced) 0 was)
        channel_states outside)
        0 (each_by (followed_by cycles landings session_starts replaced) 0 channels)
        ≡ channels_by cycles landings session_starts replaced channel_states outside 0 channels
    logged-all channels was same =
        let gone = each_by (gone_by session_starts replaced) 0 was in
        each-twice (followed_by cycles landings session_starts replaced)
        (last_by cycles landings gone channel_states outside)
        (channel_by cycles landings session_starts replaced channel_states outside) 0 channels
        (λ number within channel.
        logged-one number (get_or gone number 0)
        (slice_index_or channel_states number no_channel_state)
        (slice_index outside number) channel
        (get-each (gone_by session_starts replaced) was number 0 (omega arith)))

-- What is logged of channels by their lists is what is logged of those of a network.
channels-are : (all : NetworkState) (number : ℕ) (channels : List ChannelData)
    → channels_by all.log.cycles all.components.landings all.stimuli.schedule.session_starts
    all.replaced
    all.components.channel_states all.outside number channels ≡ channels_logged all number channels
channels-are all number [] = refl
channels-are all number (first ∷ channels) =
    ap (λ (rest : List ChannelData). channel_logged all number first ∷ rest)
    (channels-are all (suc number) channels)

pub logged-by : (all : NetworkState) → record all.log {
  channels = channels_by all.log.cycles all.components.landings all.stimuli.schedule.session_starts
      all.replaced all.components.channel_states all.outside 0 all.log.channels;
  flits = all.components.flits;
} ≡ logged all
unfolding logged
logged-by all = ap (λ (channels : List ChannelData). record all.log {
  channels = channels;
  flits = all.components.flits;
}) (channels-are all 0 all.log.channels)
