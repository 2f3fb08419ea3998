-- Sessions that go one by one: how many have gone of each channel, and what is logged of them.
use Rattle.std.proofs.Common.{◌≡◌, ◌≢◌, ◌≤◌, ◌<◌, ◌+◌, ◌++◌, ◌∙◌, ℕ, List, [], ap, arith, drop}
use Rattle.std.proofs.Common.{false, get_or, length, set, sym, take, true, eq-eqb, ne_eqb}
use Rattle.std.proofs.Common.{length-take}
use Rattle.std.proofs.lemmas.List.{length_push}
use Rattle.aeth_trace.specs.Channels.{channel_number}
use Rattle.aeth_report.specs.Log.{ChannelData, SessionData}
use Rattle.aeth_components.specs.declared.channel_state.ChannelState.{ChannelState}
use Rattle.aeth_schedule.specs.declared.session_start.SessionStart.{SessionStart}
use Rattle.aeth_stimuli.specs.Stimuli.{is_over}
use Rattle.aeth_running.specs.Logged.{sessions_logged}
use Rattle.aeth_network.specs.ByNumber.{each_by}
use Rattle.aeth_network.specs.Logging.{followed_by, gone_by, replaced_on, with_next}
use Rattle.aeth_network.proofs.ByNumberLemmas.{each-alike, each-same, each-set, get-each}
use Rattle.aeth_network.proofs.ChannelStates.{empty}
use Rattle.aeth_network.proofs.Replaced.{replaced-few, replaced-no, replaced-whole, replaced-yes}
use Rattle.aeth_network.proofs.LoggingLemmas.{followed-more, sessions_logged-none}

-- Where none has gone, none is logged.
pub followed-none : (cycles : ℕ) (landings : List ℕ) (channels : List ChannelData)
    → channels ≡ each_by (followed_by cycles landings [] []) 0 channels
followed-none cycles landings channels =
    sym (each-same (followed_by cycles landings [] []) 0 channels
    (λ k channel. ap (λ (list : List SessionData). record channel {
      sessions = list ++ channel.sessions;
    }) (sessions_logged-none cycles landings channel.sessions)))

module _ (session_starts : List SessionStart) (replaced : List ChannelState) where
  -- Once all have gone, none is left.
  pub counts-whole : (place : ℕ) (was : List ℕ) → length replaced ≤ place
      → each_by (gone_by (take place session_starts) (take place replaced)) 0 was
      ≡ each_by (gone_by session_starts replaced) 0 was
  counts-whole place was all =
      each-alike (gone_by (take place session_starts) (take place replaced))
      (gone_by session_starts replaced) 0 was
      (λ k least most n. ap length (replaced-whole k place session_starts replaced all))

  pub channels-whole : (cycles : ℕ) (landings : List ℕ) (place : ℕ) (channels : List ChannelData)
      → length replaced ≤ place
      → each_by (followed_by cycles landings (take place session_starts) (take place replaced)) 0
      channels
      ≡ each_by (followed_by cycles landings session_starts replaced) 0 channels
  channels-whole cycles landings place channels all =
      each-alike (followed_by cycles landings (take place session_starts) (take place replaced))
      (followed_by cycles landings session_starts replaced) 0 channels
      (λ k least most channel. ap (λ (past : List ChannelState). record channel {
        sessions = sessions_logged cycles landings channel.sessions (drop 1 past)
            ++ drop (length (drop 1 past)) channel.sessions;
      }) (replaced-whole k place session_starts replaced all))

  module _ (one : SessionStart) (place number : ℕ) (some : place < length session_starts)
      (there : place < length replaced)
      (is : number ≡ channel_number (get_or session_starts place one).channel) where
    over : is_over number (get_or session_starts place one) ≡ true
    over = eq-eqb (channel_number (get_or session_starts place one).channel) number (sym is)

    other : (k : ℕ) → k ≢ number → is_over k (get_or session_starts place one) ≡ false
    other k apart =
        ne_eqb (channel_number (get_or session_starts place one).channel) k
        (λ same. apart (sym same ∙ sym is))

    -- Another channel has as many as before.
    counts-alike : (k : ℕ) → k ≢ number → (was : ℕ)
        → gone_by (take place session_starts) (take place replaced) k was
        ≡ gone_by (take (place + 1) session_starts) (take (place + 1) replaced) k was
    counts-alike k apart was =
        ap length (sym (replaced-no k place session_starts replaced one some there (other k apart)))

    channels-alike : (cycles : ℕ) (landings : List ℕ) (k : ℕ) → k ≢ number
        → (channel : ChannelData)
        → followed_by cycles landings (take place session_starts) (take place replaced) k channel
        ≡ followed_by cycles landings (take (place + 1) session_starts) (take (place + 1) replaced)
        k channel
    channels-alike cycles landings k apart channel =
        ap (λ (past : List ChannelState). record channel {
          sessions = sessions_logged cycles landings channel.sessions (drop 1 past)
              ++ drop (length (drop 1 past)) channel.sessions;
        }) (sym (replaced-no k place session_starts replaced one some there (other k apart)))

    -- No channel has its number.
    pub counts-past : (was : List ℕ) → length was ≤ number
        → each_by (gone_by (take place session_starts) (take place replaced)) 0 was
        ≡ each_by (gone_by (take (place + 1) session_starts) (take (place + 1) replaced)) 0 was
    counts-past was past =
        each-alike (gone_by (take place session_starts) (take place replaced))
        (gone_by (take (place + 1) session_starts) (take (place + 1) replaced)) 0 was
        (λ k least most. counts-alike k (omega arith))

    pub channels-past : (cycles : ℕ) (landings : List ℕ) (channels : List ChannelData)
        → length channels ≤ number
        → each_by (followed_by cycles landings (take place session_starts) (take place replaced)) 0
        channels
        ≡ each_by (followed_by cycles landings (take (place + 1) session_starts)
        (take (place + 1) replaced))
        0 channels
    channels-past cycles landings channels past =
        each-alike (followed_by cycles landings (take place session_starts) (take place replaced))
        (followed_by cycles landings (take (place + 1) session_starts) (take (place + 1) replaced))
        0 channels
        (λ k least most. channels-alike cycles landings k (omega arith))

    -- No more have gone of a channel than of all.
    pub count-few : (was gone : List ℕ) → number < length was
        → gone ≡ each_by (gone_by (take place session_starts) (take place replaced)) 0 was
        → get_or gone number 0 ≤ place
    count-few was gone within now =
        let count = ap (λ list. get_or list number 0) now
        ∙ get-each (gone_by (take place session_starts) (take place replaced)) was number 0 within
        in
        let few = replaced-few number (take place session_starts) (take place replaced) in
        let size = length-take place replaced in
        omega arith

    -- Its channel has one more.
    pub count-more : (was gone : List ℕ) → number < length was
        → gone ≡ each_by (gone_by (take place session_starts) (take place replaced)) 0 was
        → set gone number (get_or gone number 0 + 1)
        ≡ each_by (gone_by (take (place + 1) session_starts) (take (place + 1) replaced)) 0 was
    count-more was gone within now =
        let f = gone_by (take place session_starts) (take place replaced) in
        let g = gone_by (take (place + 1) session_starts) (take (place + 1) replaced) in
        let grown = ap length
        (replaced-yes number place session_starts replaced one empty some there over) in
        let size = length_push
        (replaced_on number (take place session_starts) (take place replaced))
        (get_or replaced place empty) in
        let count = ap (λ list. get_or list number 0) now ∙ get-each f was number 0 within in
        each-set f g was gone number 0 (get_or gone number 0 + 1) within now (omega arith)
        counts-alike

    -- The session before it is logged.
    pub channel-more : (cycles : ℕ) (landings was gone : List ℕ) (channels now : List ChannelData)
        (default next : ChannelData) → number < length was → number < length channels
        → gone ≡ each_by (gone_by (take place session_starts) (take place replaced)) 0 was
        → now ≡ each_by
        (followed_by cycles landings (take place session_starts) (take place replaced)) 0
        channels
        → next ≡ record (get_or now number default) {
          sessions = with_next cycles landings (get_or gone number 0) (get_or replaced place empty)
              (get_or now number default).sessions;
        }
        → set now number next
        ≡ each_by (followed_by cycles landings (take (place + 1) session_starts)
        (take (place + 1) replaced))
        0 channels
    channel-more cycles landings was gone channels now default next counted within gone_is now_is to =
        let past = replaced_on number (take place session_starts) (take place replaced) in
        let channel_state = get_or replaced place empty in
        let f = followed_by cycles landings (take place session_starts) (take place replaced) in
        let g = followed_by cycles landings (take (place + 1) session_starts)
        (take (place + 1) replaced) in
        let old = get_or channels number default in
        let yes = replaced-yes number place session_starts replaced one empty some there over in
        let count : get_or gone number 0 ≡ length past = ap (λ list. get_or list number 0) gone_is
        ∙ get-each (gone_by (take place session_starts) (take place replaced)) was number 0 counted
        in
        let here : get_or now number default ≡ f number old =
        ap (λ (list : List ChannelData). get_or list number default) now_is
        ∙ get-each f channels number default within in
        each-set f g channels now number default next within now_is
        (to
        ∙ ap (λ (channel : ChannelData). record channel {
          sessions = with_next cycles landings (get_or gone number 0) channel_state
              channel.sessions;
        }) here
        ∙ ap (λ n. record old {
          sessions = with_next cycles landings n channel_state (f number old).sessions;
        }) count
        ∙ ap (λ (list : List SessionData). record old { sessions = list })
        (followed-more cycles landings old.sessions past channel_state)
        ∙ ap (λ (list : List ChannelState). record old {
          sessions = sessions_logged cycles landings old.sessions (drop 1 list)
              ++ drop (length (drop 1 list)) old.sessions;
        }) (sym yes))
        (channels-alike cycles landings)
