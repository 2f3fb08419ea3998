-- Sessions that are added to their channels one by one.
use Rattle.std.proofs.Common.{◌≡◌, ◌≢◌, ◌≤◌, ◌<◌, ◌+◌, ◌*◌, ◌++◌, ◌∙◌, ℕ, zero, suc, List, [], ◌∷◌}
use Rattle.std.proofs.Common.{Some, ap, arith, false, flat_map, get_or, length, map, refl, set}
use Rattle.std.proofs.Common.{slice_get, sym, take, true, eq-eqb, ne_eqb, append-nil, append_assoc}
use Rattle.std.proofs.lemmas.List.{map-append, take_more, Elements.filter-append}
use Rattle.std.proofs.lemmas.Option.{same_Some}
use Rattle.std.specs.List.{range_with_len}
use Rattle.aeth_base.specs.declared.ids.Channel.{Channel}
use Rattle.aeth_trace.specs.{Channels.channel_number, declared.words.WordRow.WordRow}
use Rattle.aeth_report.specs.Channels.{channels_of, channels_with}
use Rattle.aeth_report.specs.Log.{ChannelData, SessionData}
use Rattle.aeth_schedule.specs.declared.session_start.SessionStart.{SessionStart}
use Rattle.aeth_running.specs.FirstLog.{first_session}
use Rattle.aeth_stimuli.specs.Stimuli.{session_starts_over, is_over}
use Rattle.aeth_network.specs.{ByNumber.each_by, Records.added_by, Records.channel_from}
use Rattle.aeth_network.proofs.ByNumberLemmas.{each-alike, each-map, each-same, each-set, get-each}

-- Channels stand at their numbers.
numbered : (first n k : ℕ) (channel : Channel)
    → slice_get (flat_map channels_with (range_with_len first n)) k ≡ Some channel
    → channel_number channel ≡ 2 * first + k
numbered first zero k channel at = absurd (cc at)
numbered first (suc n) zero channel at =
    let is = ap channel_number (sym (same_Some _ channel at)) in omega arith
numbered first (suc n) (suc zero) channel at =
    let is = ap channel_number (sym (same_Some _ channel at)) in omega arith
numbered first (suc n) (suc (suc k)) channel at =
    let rest = numbered (first + 1) n k channel at in omega arith

module _ (words : List WordRow) (cycles : ℕ) where
  -- None is added.
  pub added-none : (channels : List ChannelData)
      → channels ≡ each_by (added_by words cycles []) 0 channels
  added-none channels =
      sym (each-same (added_by words cycles []) 0 channels
      (λ k channel. ap (λ (list : List SessionData). record channel { sessions = list })
      (append-nil channel.sessions)))

  -- All are, to channels without any.
  pub added-all : (session_starts : List SessionStart) (n : ℕ)
      → each_by (added_by words cycles session_starts) 0
      (map (channel_from [] 0 []) (channels_of n))
      ≡ map (channel_from words cycles session_starts) (channels_of n)
  added-all session_starts n =
      each-map (added_by words cycles session_starts) (channel_from [] 0 [])
      (channel_from words cycles session_starts) 0 (channels_of n)
      (λ k channel at. let is = numbered 0 n k channel at in
      let same : 0 + k ≡ channel_number channel = omega arith in
      ap (λ number. record {
        channel = channel;
        sessions = map (first_session words cycles) (session_starts_over number session_starts);
        outside = 0;
      }) same)

  module _ (session_starts : List SessionStart) (session_start : SessionStart) (place number : ℕ)
      (some : place < length session_starts)
      (at : session_start ≡ get_or session_starts place session_start)
      (is : number ≡ channel_number session_start.channel) where
    more : take (place + 1) session_starts ≡ take place session_starts ++ session_start ∷ []
    more = take_more session_starts place session_start some
        ∙ ap (λ (one : SessionStart). take place session_starts ++ one ∷ []) (sym at)

    -- Another channel gets none.
    other : (k : ℕ) → k ≢ number → (channel : ChannelData)
        → added_by words cycles (take place session_starts) k channel
        ≡ added_by words cycles (take (place + 1) session_starts) k channel
    other k apart channel =
        let not_over : is_over k session_start ≡ false =
        ne_eqb (channel_number session_start.channel) k (λ same. apart (sym same ∙ sym is)) in
        let same : session_starts_over k (take (place + 1) session_starts)
        ≡ session_starts_over k (take place session_starts) =
        ap (session_starts_over k) more
        ∙ filter-append (is_over k) (take place session_starts) (session_start ∷ [])
        ∙ rw not_over (append-nil (session_starts_over k (take place session_starts))) in
        ap (λ (list : List SessionStart). record channel {
          sessions = channel.sessions ++ map (first_session words cycles) list;
        }) (sym same)

    -- No channel has its number.
    pub added-past : (channels : List ChannelData) → length channels ≤ number
        → each_by (added_by words cycles (take place session_starts)) 0 channels
        ≡ each_by (added_by words cycles (take (place + 1) session_starts)) 0 channels
    added-past channels past =
        each-alike (added_by words cycles (take place session_starts))
        (added_by words cycles (take (place + 1) session_starts)) 0 channels
        (λ k least most. other k (omega arith))

    -- Its channel gets it.
    pub added-more : (channels now : List ChannelData) (default next : ChannelData)
        → number < length channels
        → now ≡ each_by (added_by words cycles (take place session_starts)) 0 channels
        → next ≡ record (get_or now number default) {
          sessions = (get_or now number default).sessions
              ++ first_session words cycles session_start ∷ [];
        }
        → set now number next
        ≡ each_by (added_by words cycles (take (place + 1) session_starts)) 0 channels
    added-more channels now default next within now_is to =
        let f = added_by words cycles (take place session_starts) in
        let g = added_by words cycles (take (place + 1) session_starts) in
        let old = get_or channels number default in
        let done = session_starts_over number (take place session_starts) in
        let over : is_over number session_start ≡ true =
        eq-eqb (channel_number session_start.channel) number (sym is) in
        let grown : session_starts_over number (take (place + 1) session_starts)
        ≡ done ++ session_start ∷ [] =
        ap (session_starts_over number) more
        ∙ filter-append (is_over number) (take place session_starts) (session_start ∷ [])
        ∙ rw over refl in
        let here : get_or now number default ≡ f number old =
        ap (λ (list : List ChannelData). get_or list number default) now_is
        ∙ get-each f channels number default within in
        let sessions = map (first_session words cycles) done in
        each-set f g channels now number default next within now_is
        (to
        ∙ ap (λ (channel : ChannelData). record channel {
          sessions = channel.sessions ++ first_session words cycles session_start ∷ [];
        }) here
        ∙ ap (λ (list : List SessionData). record old { sessions = list })
        (append_assoc old.sessions sessions (first_session words cycles session_start ∷ [])
        ∙ ap (λ (list : List SessionData). old.sessions ++ list)
        (sym (map-append (first_session words cycles) done (session_start ∷ []))))
        ∙ ap (λ (list : List SessionStart). record old {
          sessions = old.sessions ++ map (first_session words cycles) list;
        }) (sym grown))
        other
