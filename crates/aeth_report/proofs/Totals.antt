-- The sums over the log of a run, and the order of its counts.
use Rattle.std.proofs.Common.{◌≡◌, ◌≤◌, ◌∙◌, ℕ, ◌+◌, ◌*◌, cond, List, [], ◌∷◌, Contains, filter}
use Rattle.std.proofs.Common.{length, map, refl, sym, ap, subst, arith, ◌==◌, nat_lt, not, sum}
use Rattle.std.proofs.lemmas.List.{length-map, Elements.All-contains_itself}
use Rattle.std.proofs.lemmas.List.{FromFn.length-range_with_len, Sums.count_by-le-length}
use Rattle.std.proofs.lemmas.List.{Sums.length-filter, Sums.sum-map, Sums.sum_by-cons}
use Rattle.std.proofs.lemmas.List.{Sums.sum_by-le, Sums.sum_by-le-sum_by}
use Rattle.std.specs.List.{All, count_by, range_with_len, sum_by}
use Rattle.aeth_base.specs.declared.ids.Channel.{Channel}
use Rattle.aeth_base.proofs.{Lists.sum_by-map, Members.filter-Contains, Members.map-Contains}
use Rattle.aeth_server.specs.{PrivateServer.PrivateServer, PrivateServer.landed, Shape.HasPaths}
use Rattle.aeth_server.proofs.PrivateServerLemmas.{has-grown, in-order}
use Rattle.aeth_trace.specs.{Channels.is_channel, Words.words_on, declared.words.WordRow.WordRow}
use Rattle.aeth_report.specs.{Carries.carries, Channels.channels_of, Flows.Flow, Flows.Run}
use Rattle.aeth_report.specs.{Flows.flow_of, Flows.flows_on, Flows.sessions_in, Log.ChannelData}
use Rattle.aeth_report.specs.{Log.SessionData, Regular.IsOrdered, Regular.landings_in}
use Rattle.aeth_report.specs.{Regular.offered_in, RunLog.channel_log, RunLog.counted_to}
use Rattle.aeth_report.specs.{RunLog.flits_over, RunLog.flow_log, RunLog.landing_of, RunLog.log_of}
use Rattle.aeth_report.specs.{RunLog.session_log, Sound.IsSound}
use Rattle.aeth_report.proofs.{Accounts.is_before, FlowPlaces.channels_of-once}
use Rattle.aeth_report.proofs.{ChannelLemmas.same_channel, OneFlit.session-paths}
use Rattle.aeth_report.proofs.{RegularLemmas.channel-accounted, Sums.count_by-sole}
use Rattle.aeth_report.proofs.{Sums.sum_by-below, Sums.sum_by-none, Sums.sum_by-plus}

-- What holds of what is in a list holds of all.
pub All-members : {X : Type 0} (P : X → Type 0) (xs : List X) → ((x : X) → Contains xs x → P x)
    → All P xs
All-members P xs each k default within =
    each _ (All-contains_itself xs k default within)

-- ---- the words of all channels

-- A word is on one channel at most.
on-one : (n : ℕ) (channel : Channel)
    → count_by (λ one. is_channel one channel) (channels_of n) ≤ 1
on-one n channel =
    count_by-sole (λ (one : Channel). is_channel one channel) (channels_of n)
    (λ i j one other at_i at_j is too.
    channels_of-once n i j one other at_i at_j
    (same_channel one channel is ∙ sym (same_channel other channel too)))

-- So all channels together have no more words than there are.
words-counted : (n : ℕ) (words : List WordRow)
    → sum_by (λ one. count_by (λ (row : WordRow). is_channel one row.channel) words)
    (channels_of n) ≤ length words
words-counted n [] =
    let none = sum_by-none (λ (one : Channel). 0) (channels_of n) (λ one. refl) in omega arith
words-counted n (row ∷ words) =
    let here : Channel → ℕ = λ one. cond (is_channel one row.channel) 1 0 in
    let later : Channel → ℕ = λ one. count_by (λ (r : WordRow). is_channel one r.channel) words in
    let split : sum_by (λ one. count_by (λ (r : WordRow). is_channel one r.channel) (row ∷ words))
    (channels_of n) ≡ sum_by (λ one. here one + later one) (channels_of n) =
    λ k. sum_by (λ (one : Channel). sum_by-cons
    (λ (r : WordRow). cond (is_channel one r.channel) 1 0) row words k) (channels_of n) in
    let both = sum_by-plus here later (channels_of n) in
    let first : sum_by here (channels_of n) ≤ 1 = on-one n row.channel in
    let rest = words-counted n words in
    omega arith

pub words-total : (n : ℕ) (words : List WordRow)
    → sum_by (λ one. length (words_on words one)) (channels_of n) ≤ length words
words-total n words =
    let same : sum_by (λ one. length (words_on words one)) (channels_of n)
    ≡ sum_by (λ one. count_by (λ (row : WordRow). is_channel one row.channel) words)
    (channels_of n) =
    λ k. sum_by (λ (one : Channel).
    length-filter (λ (row : WordRow). is_channel one row.channel) words k) (channels_of n) in
    let most = words-counted n words in
    omega arith

-- ---- one session
-- its counts are in order.
pub session-ordered : (server : PrivateServer) → HasPaths server.shape → (cycles : ℕ)
    (values : List ℕ) → IsOrdered (session_log cycles server values)
session-ordered server paths cycles values =
    let counted = counted_to cycles server in
    let order = in-order server paths counted in
    let grown = has-grown server paths counted cycles (omega arith) in
    let lands = order.lands in
    let sends = order.sends in
    let arrives = grown.arrived in
    record { takes = order.takes; lands = omega arith }

-- It has a row for each word that has landed.
session-rows : (server : PrivateServer) (cycles : ℕ) (values : List ℕ)
    → length (session_log cycles server values).rows ≡ (session_log cycles server values).landed
session-rows server cycles values =
    let numbers = range_with_len 0 (landed server (counted_to cycles server)) in
    length-map numbers (landing_of cycles server values)
    ∙ length-range_with_len 0 (landed server (counted_to cycles server))

module _ (run : Run) (sound : IsSound run) where
  abbrev channels : List Channel
  channels = channels_of run.design.groups.connections

  -- The sessions of a channel's log are those of its flows.
  ordered-on : (channel : Channel) (session : SessionData)
      → Contains (channel_log run channel).sessions session
      → IsOrdered session × (length session.rows ≡ session.landed)
  ordered-on channel session has =
      let flows = flows_on run channel in
      let going = λ (flow : Flow). nat_lt flow.server.go run.cycles in
      let found = map-Contains (flow_log run.cycles) (filter going flows) session has in
      let inside = (filter-Contains going flows found.0 found.2).0 in
      let of = map-Contains (flow_of run channel) (sessions_in run channel.conn.0) found.0 inside in
      let own = flow_of run channel of.0 in
      let paths = session-paths run sound channel of.0 of.2 in
      let is : flow_log run.cycles own ≡ session =
      ap (flow_log run.cycles) of.1 ∙ found.1 in
      subst (λ (s : SessionData). IsOrdered s × (length s.rows ≡ s.landed)) is (
        session-ordered own.server paths run.cycles own.values,
        session-rows own.server run.cycles own.values,
      )

  -- The counts of all sessions are in order.
  pub log-ordered : All (λ one. All IsOrdered one.sessions) (log_of run).channels
  log-ordered =
      All-members (λ (one : ChannelData). All IsOrdered one.sessions) (map (channel_log run) channels)
      (λ one has.
      let found = map-Contains (channel_log run) channels one has in
      subst (λ (z : ChannelData). All IsOrdered z.sessions) found.1
      (All-members IsOrdered (channel_log run found.0).sessions
      (λ session has. (ordered-on found.0 session has).0)))

  -- A channel has no more words in its sessions, and outside of them, than it is offered.
  channel-words : (channel : Channel)
      → offered_in (channel_log run channel) + (channel_log run channel).outside
      ≤ length (words_on run.words channel)
  channel-words channel =
      let all = channel-accounted run channel sound in
      let few = count_by-le-length (is_before run.cycles) (words_on run.words channel) in
      omega arith

  -- So all channels have no more than there are.
  pub log-words : sum_by offered_in (log_of run).channels
      + sum_by (λ one. one.outside) (log_of run).channels ≤ length run.words
  log-words =
      let offered = λ (channel : Channel). offered_in (channel_log run channel) in
      let outside = λ (channel : Channel). (channel_log run channel).outside in
      let one = sum_by-map offered_in (channel_log run) channels in
      let two = sum_by-map (λ (z : ChannelData). z.outside) (channel_log run) channels in
      let both = sum_by-plus offered outside channels in
      let below = sum_by-le-sum_by (λ (channel : Channel). offered channel + outside channel)
      (λ (channel : Channel). length (words_on run.words channel)) channels channel-words in
      let most = words-total run.design.groups.connections run.words in
      omega arith

  -- No more words have landed than were offered.
  pub log-landings : sum_by landings_in (log_of run).channels
      ≤ sum_by offered_in (log_of run).channels
  log-landings =
      sum_by-below landings_in offered_in (map (channel_log run) channels) (λ one has.
      let found = map-Contains (channel_log run) channels one has in
      subst (λ (z : ChannelData). landings_in z ≤ offered_in z) found.1
      (sum_by-below (λ (s : SessionData). length s.rows) (λ (s : SessionData). s.offered)
      (channel_log run found.0).sessions (λ session inside.
      let both = ordered-on found.0 session inside in
      let ordered = both.0 in
      let lands = ordered.lands in
      let rows = both.1 in
      omega arith)))

  -- A link has no more flits than there are cycles.
  pub log-flits : sum (log_of run).flits ≤ length run.design.chip.links * run.cycles
  log-flits =
      let links = range_with_len 0 (length run.design.chip.links) in
      let count = length-range_with_len 0 (length run.design.chip.links) in
      let most = sum_by-le (flits_over run) run.cycles links (All-members
      (λ (l : ℕ). flits_over run l ≤ run.cycles) links (λ l has.
      let few = count_by-le-length (λ (t : ℕ). not (length (carries run l t) == 0))
      (range_with_len 0 run.cycles) in
      let size = length-range_with_len 0 run.cycles in
      omega arith)) in
      let same = sum-map (flits_over run) links in
      let long : length links * run.cycles ≡ length run.design.chip.links * run.cycles =
      ap (λ n. n * run.cycles) count in
      omega arith
