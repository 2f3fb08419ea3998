-- The log of the network of accepted inputs is that of their run.
use Rattle.std.proofs.Common.{◌≡◌, ◌≤◌, ◌<◌, ◌∙◌, ℕ, zero, suc, ◌+◌, ◌*◌, List, ◌∷◌, Some, filter}
use Rattle.std.proofs.Common.{length, map, slice_get, refl, sym, ap, arith, flat_map, nat_lt}
use Rattle.std.proofs.lemmas.List.Concat.{flat_map-cons}
use Rattle.std.specs.List.{range_with_len, Sorted.IsNonDecreasingBy}
use Rattle.aeth_base.specs.declared.ids.Channel.{Channel}
use Rattle.aeth_base.specs.declared.ids.Side.TheVariants.{Back, Fwd}
use Rattle.aeth_group.proofs.MemberLemmas.{connections-groups_of}
use Rattle.aeth_trace.specs.Channels.{channel_number}
use Rattle.aeth_report.specs.{Carries.carries as carries_in, Channels.channels_of}
use Rattle.aeth_report.specs.{Channels.channels_with, Flows.sessions_in, Log.LogData}
use Rattle.aeth_report.specs.{RunLog.channel_log, RunLog.log_of, declared.session.Session.Session}
use Rattle.aeth_report.specs.{Sound.IsSound}
use Rattle.aeth_invariant.specs.Carries.{carries}
use Rattle.aeth_accepted.specs.Inputs.{AreAccepted, Inputs, run_of}
use Rattle.aeth_routed_sessions.specs.RoutedSessions.{routed_sessions_of}
use Rattle.aeth_schedule.specs.SessionStarts.{session_starts_of}
use Rattle.aeth_running.specs.{FirstLog.first_channel, FirstLog.first_log, Network.NetworkState}
use Rattle.aeth_running.specs.{Network.first_network, Network.played, Routing.Routing}
use Rattle.aeth_running.specs.{Running.HoldsBefore, Logged.channel_logged, Logged.channels_logged}
use Rattle.aeth_running.specs.{Logged.network_log, Logged.logged}
use Rattle.aeth_running.proofs.{ChannelNumbers.channel-within, ChannelLogged.channel-is}
use Rattle.aeth_running.proofs.{FlitsLogged.flits-are, Played.played-log}
use Rattle.aeth_stimuli.specs.Stimuli.{session_starts_over}
use Rattle.aeth_stimuli.specs.Sessions.{IsBefore, as_session_start, session_start_of}

-- The channels of connections are logged one after the other, each by its number.
channels-are : (all : NetworkState) (inputs : Inputs)
    → ((channel : Channel) → channel.conn.0 < length inputs.app.connections
    → channel_logged all (channel_number channel) (first_channel inputs channel)
    ≡ channel_log (run_of inputs) channel)
    → (n c : ℕ) → c + n ≤ length inputs.app.connections
    → channels_logged all (2 * c)
    (map (first_channel inputs) (flat_map channels_with (range_with_len c n)))
    ≡ map (channel_log (run_of inputs)) (flat_map channels_with (range_with_len c n))
channels-are all inputs each zero c within = refl
channels-are all inputs each (suc n) c within =
    let fwd : Channel = record { conn = record { 0 = c }; side = Fwd } in
    let back : Channel = record { conn = record { 0 = c }; side = Back } in
    let later = flat_map channels_with (range_with_len (c + 1) n) in
    let cons = flat_map-cons channels_with c (range_with_len (c + 1) n) in
    let first : 2 * c ≡ channel_number fwd = omega arith in
    let second : suc (2 * c) ≡ channel_number back = omega arith in
    let third : suc (suc (2 * c)) ≡ 2 * (c + 1) = omega arith in
    let one = ap (λ k. channel_logged all k (first_channel inputs fwd)) first
    ∙ each fwd (omega arith) in
    let other = ap (λ k. channel_logged all k (first_channel inputs back)) second
    ∙ each back (omega arith) in
    let rest = ap (λ k. channels_logged all k (map (first_channel inputs) later)) third
    ∙ channels-are all inputs each n (c + 1) (omega arith) in
    ap (λ (list : List Channel). channels_logged all (2 * c) (map (first_channel inputs) list)) cons
    ∙ (λ q. one q ∷ other q ∷ rest q)
    ∙ ap (λ (list : List Channel). map (channel_log (run_of inputs)) list) (sym cons)

-- What is logged of a network that has the first log of inputs.
logged-is : (inputs : Inputs) (all : NetworkState)
    → ((channel : Channel) → channel.conn.0 < length inputs.app.connections
    → channel_logged all (channel_number channel) (first_channel inputs channel)
    ≡ channel_log (run_of inputs) channel)
    → all.log ≡ first_log inputs → all.components.flits ≡ (log_of (run_of inputs)).flits
    → logged all ≡ log_of (run_of inputs)
unfolding logged
logged-is inputs all each log carried =
    let count = connections-groups_of inputs.app in
    let cycles : all.log.cycles ≡ inputs.cycles = ap (λ (l : LogData). l.cycles) log in
    let channels_are : channels_logged all 0 all.log.channels ≡ (log_of (run_of inputs)).channels =
    ap (λ (l : LogData). channels_logged all 0 l.channels) log
    ∙ channels-are all inputs each (length inputs.app.connections) 0 (omega arith)
    ∙ ap (λ n. map (channel_log (run_of inputs)) (channels_of n)) (sym count) in
    λ q. record { cycles = cycles q; channels = channels_are q; flits = carried q }

module _ (inputs : Inputs) (routing : Routing) (accepted : AreAccepted inputs) (sound : IsSound (run_of inputs))
    (carried : (l t : ℕ) → l < length inputs.chip.links
    → carries (routed_sessions_of inputs) l t ≡ carries_in (run_of inputs) l t)
    (running : (t : ℕ) → t ≤ inputs.cycles
    → HoldsBefore inputs t (played t (first_network inputs routing)).components)
    (ordered : IsNonDecreasingBy (λ session_start. session_start.channel_state.go)
    (session_starts_of inputs))
    (apart : (c i j : ℕ) (one other : Session) → c < length inputs.app.connections → i < j
    → slice_get (sessions_in (run_of inputs) c) i ≡ Some one
    → slice_get (sessions_in (run_of inputs) c) j ≡ Some other → IsBefore one other)
    (session_starts_are : (channel : Channel) → channel.conn.0 < length inputs.app.connections
    → map as_session_start (session_starts_over (channel_number channel) (session_starts_of inputs))
    ≡ map (session_start_of inputs channel) (filter (λ session. nat_lt session.go inputs.cycles)
    (sessions_in (run_of inputs) channel.conn.0))) where
  -- So the log of the network is that of the run.
  pub log-is : network_log inputs routing ≡ log_of (run_of inputs)
  unfolding network_log
  log-is =
      let all = played inputs.cycles (first_network inputs routing) in
      let run = running inputs.cycles (omega arith) in
      logged-is inputs all
      (λ channel known. channel-is inputs routing accepted sound running ordered channel known
      (channel-within channel (length inputs.app.connections) known)
      (λ i j one other. apart channel.conn.0 i j one other known)
      (session_starts_are channel known))
      (played-log inputs routing inputs.cycles)
      (flits-are inputs all.components carried run.links run.flits)
