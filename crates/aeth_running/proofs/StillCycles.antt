-- The cycles that leave the network of accepted inputs as it is are the idle cycles of its run.
use Rattle.std.proofs.Common.{◌≡◌, ◌≤◌, ◌<◌, ◌+◌, ◌∙◌, ℕ, All, [], Contains, None, zero, suc, ap}
use Rattle.std.proofs.Common.{arith, inl, inr, length, subst, sym}
use Rattle.std.proofs.lemmas.Bool.{cases_lt}
use Rattle.std.specs.Option.{option_to_list}
use Rattle.aeth_base.specs.declared.ids.{Channel.Channel, LinkId.LinkId}
use Rattle.aeth_base.proofs.Members.{Contains-slice_get, slice_get-Contains}
use Rattle.aeth_chip.specs.{Paths.delay_of, Wires.wire_at}
use Rattle.aeth_clocked.specs.Wires.{flit_on}
use Rattle.aeth_components.specs.ChannelStates.{is_open}
use Rattle.aeth_group.proofs.MemberLemmas.{connections-groups_of}
use Rattle.aeth_server.specs.PrivateServer.{PrivateServer, taken}
use Rattle.aeth_report.specs.{Carries.carries, Flows.server_of, Flows.sessions_in, Sound.IsSound}
use Rattle.aeth_report.specs.{declared.session.Session.Session, SessionList.listed_at}
use Rattle.aeth_report.specs.{SessionList.place_at}
use Rattle.aeth_report.proofs.{OneFlit.session-paths, SessionNumbers.listed-among}
use Rattle.aeth_invariant.specs.WellRouted.{AreWellRouted}
use Rattle.aeth_invariant.specs.RoutedSessions.{IsOpenSession, server_at}
use Rattle.aeth_accepted.specs.Inputs.{AreAccepted, Inputs, run_of}
use Rattle.aeth_accepted.proofs.SoundRuns.{AreSpans, is_sound}
use Rattle.aeth_routed_sessions.specs.RoutedSessions.{ended, routed_sessions_of}
use Rattle.aeth_schedule.specs.Windows.{IsInWindow}
use Rattle.aeth_stimuli.specs.{Sessions.channel_of, Stimuli.Stimuli, Stimuli.stimuli_of}
use Rattle.aeth_stimuli.specs.{Events.events_in}
use Rattle.aeth_running.specs.{Idle.IsIdleCycle, Network.NetworkState, Network.first_network}
use Rattle.aeth_running.specs.{Network.session_starts_in, Network.offers_in, Network.played}
use Rattle.aeth_running.specs.{Network.ready_in, Network.stepped, Running.HoldsBefore}
use Rattle.aeth_running.specs.{Running.IsServing, Still.IsStill, Routing.Routing}
use Rattle.aeth_running.proofs.{NumberedSessions.placed-known, NumberedSessions.session_at}
use Rattle.aeth_running.proofs.{NetworkWires.exact, NetworkWires.nothing-first, Played.played-next}
use Rattle.aeth_running.proofs.{Played.played-stimuli, Played.played-time}
use Rattle.aeth_running.proofs.{SessionCycles.ended-server, SessionCycles.has-number}
use Rattle.aeth_running.proofs.{StillEvents.no-events, StillSessionStarts.no-session_starts}
use Rattle.aeth_running.proofs.{StillRows.no-offers, StillRows.no-switches, StillRows.no-windows}
use Rattle.aeth_running.proofs.{StillRows.no-words, StillTakes.rest-asked, StillTakes.rest-taken}
use Rattle.aeth_running.proofs.{StillTakes.rests-early, StillWires.no-carries, StillWires.no-flits}

module _ (inputs : Inputs) (routing : Routing) (accepted : AreAccepted inputs) (spans : AreSpans inputs accepted)
    (ok : AreWellRouted (routed_sessions_of inputs))
    (running : (t : ℕ) → t ≤ inputs.cycles
    → HoldsBefore inputs t (played t (first_network inputs routing)).components)
    (serving : (t : ℕ) → t < inputs.cycles
    → IsServing inputs t (played t (first_network inputs routing)).components
    (ready_in (played t (first_network inputs routing))))
    (behind : (link : LinkId) (k : ℕ) → k < delay_of inputs.chip.links link → (t : ℕ)
    → t + k < inputs.cycles
    → option_to_list (flit_on (played (t + k + 1) (first_network inputs routing)).components.wires
    (wire_at inputs.chip.links link.0 k)) ≡ carries (run_of inputs) link.0 t) where
  sound : IsSound (run_of inputs)
  sound = is_sound inputs accepted spans

  -- ---- takes

  module _ (t : ℕ) (early : t < inputs.cycles) where
    -- A session's receiver takes nothing where no routed session does.
    untaken-of : ((c : ℕ) → c < (routed_sessions_of inputs).count
        → taken (server_at (routed_sessions_of inputs) c) (t + 1)
        ≡ taken (server_at (routed_sessions_of inputs) c) t)
        → (channel : Channel) (session : Session)
        → channel.conn.0 < (run_of inputs).design.groups.connections
        → Contains (sessions_in (run_of inputs) channel.conn.0) session
        → taken (server_of (run_of inputs) channel session) (t + 1)
        ≡ taken (server_of (run_of inputs) channel session) t
    untaken-of none channel session inside has =
        let run = run_of inputs in
        let count = connections-groups_of inputs.app in
        let known : channel.conn.0 < length inputs.app.connections = omega arith in
        elim (cases_lt inputs.cycles session.go) [
          | inl late ↦ rests-early (server_of run channel session)
              (session-paths run sound channel session has) t (omega arith)
          | inr soon ↦
              let (place, at) = slice_get-Contains (sessions_in run channel.conn.0) session has in
              let found = has-number inputs sound channel known place session at in
              let same = found.server_is ∙ ended-server inputs sound channel known session soon in
              subst (λ (server : PrivateServer). taken server (t + 1) ≡ taken server t) same
              (none found.number found.within)
        ]

    -- And the other way round, of the sessions in use.
    routed_sessions-untaken : ((channel : Channel) (session : Session)
        → channel.conn.0 < (run_of inputs).design.groups.connections
        → Contains (sessions_in (run_of inputs) channel.conn.0) session
        → taken (server_of (run_of inputs) channel session) (t + 1)
        ≡ taken (server_of (run_of inputs) channel session) t)
        → (c : ℕ) → c < (routed_sessions_of inputs).count
        → IsOpenSession (routed_sessions_of inputs) c t
        → taken (server_at (routed_sessions_of inputs) c) (t + 1)
        ≡ taken (server_at (routed_sessions_of inputs) c) t
    routed_sessions-untaken none c known going =
        let run = run_of inputs in
        let channel = (listed_at run c).channel in
        let session = session_at inputs c in
        let inside = placed-known inputs c known in
        let count = connections-groups_of inputs.app in
        let goes = going.goes in
        let soon : session.go ≤ inputs.cycles = omega arith in
        let has = Contains-slice_get (sessions_in run channel.conn.0) (place_at run c) session
        (listed-among run c known) in
        let same : server_of run channel (ended inputs.cycles session) ≡ server_of run channel session =
        ended-server inputs sound channel inside session soon in
        subst (λ (server : PrivateServer). taken server (t + 1) ≡ taken server t) (sym same)
        (none channel session (omega arith) has)

  -- ---- wires

  -- Where nothing is under way as a cycle begins the wires are empty.
  empty-of : (t : ℕ) → t < inputs.cycles
      → ((link : LinkId) (j u : ℕ) → j < delay_of inputs.chip.links link → u + j + 1 ≡ t
      → carries (run_of inputs) link.0 u ≡ [])
      → (l : ℕ) → flit_on (played t (first_network inputs routing)).components.wires l ≡ None
  empty-of zero early none l = nothing-first inputs routing running l
  empty-of (suc t) early none l =
      let next : suc t ≡ t + 1 = omega arith in
      ap (λ n. flit_on (played n (first_network inputs routing)).components.wires l) next
      ∙ no-flits inputs routing behind t (omega arith) (exact inputs routing running t (omega arith))
      (λ link j u short time. none link j u short (omega arith)) l

  before-of : (t : ℕ) → t < inputs.cycles
      → ((l : ℕ) → flit_on (played t (first_network inputs routing)).components.wires l ≡ None)
      → (link : LinkId) (j u : ℕ) → j < delay_of inputs.chip.links link → u + j + 1 ≡ t
      → carries (run_of inputs) link.0 u ≡ []
  before-of zero early none link j u short time = absurd (omega arith)
  before-of (suc t) early none link j u short time =
      let next : t + 1 ≡ suc t = omega arith in
      no-carries inputs routing behind t (omega arith)
      (λ l. ap (λ n. flit_on (played n (first_network inputs routing)).components.wires l) next ∙ none l)
      link j u short (omega arith)

  module _ (t : ℕ) (early : t < inputs.cycles) where
    abbrev all : NetworkState
    all = played t (first_network inputs routing)

    next-wires : (l : ℕ) → flit_on (stepped all).components.wires l
        ≡ flit_on (played (t + 1) (first_network inputs routing)).components.wires l
    next-wires l = ap (λ (one : NetworkState). flit_on one.components.wires l)
        (sym (played-next (first_network inputs routing) t))

    -- An idle cycle leaves the network.
    pub still-of : IsIdleCycle (run_of inputs) t → IsStill (played t (first_network inputs routing))
    still-of idle =
        let stimuli = played-stimuli inputs routing t in
        let time = played-time inputs routing t in
        let serves = serving t early in
        let none = idle.unswitched in
        record {
          empty = empty-of t early idle.before;
          silent = λ l. next-wires l
              ∙ no-flits inputs routing behind t early (exact inputs routing running t early) idle.now l;
          unoffered = (λ i. offers_in (stimuli i) (time i)) ∙ no-offers inputs t early idle.unoffered;
          ungone = λ late. (λ i. session_starts_in (stimuli i) (time i))
              ∙ no-session_starts inputs t none (omega arith);
          eventless = (λ i. events_in (stimuli i) (time i))
              ∙ no-events inputs accepted spans t none;
          unasked = λ number channel_state at opened. rest-asked (routed_sessions_of inputs) ok
              (channel_of inputs)
              (ready_in all).words t serves.enqueued (ready_in all).channel_states
              serves.follows.served
              (routed_sessions-untaken t early idle.untaken) number channel_state at
              (ap (is_open channel_state) (sym time) ∙ opened);
          unswitched = subst (λ (s : Stimuli).
              All (λ window. IsInWindow window all.time → ⊥) s.schedule.windows) (sym stimuli)
              (subst (λ (n : ℕ). All (λ window. IsInWindow window n → ⊥)
              (stimuli_of inputs).schedule.windows) (sym time) (no-windows inputs t early none));
        }

    -- And only such a one does.
    pub idle-of : IsStill (played t (first_network inputs routing)) → IsIdleCycle (run_of inputs) t
    idle-of still =
        let stimuli = played-stimuli inputs routing t in
        let time = played-time inputs routing t in
        let serves = serving t early in
        record {
          now = no-carries inputs routing behind t early (λ l. sym (next-wires l) ∙ still.silent l);
          before = before-of t early still.empty;
          unoffered = no-words inputs t early
              ((λ i. offers_in (sym stimuli i) (sym time i)) ∙ still.unoffered);
          untaken = untaken-of t early
              (rest-taken (routed_sessions_of inputs) ok (channel_of inputs)
              (ready_in all).words t serves.enqueued (ready_in all).channel_states
              serves.follows.served
              (λ number channel_state at opened. still.unasked number channel_state at
              (ap (is_open channel_state) time ∙ opened)));
          unswitched = no-switches inputs t early
              (subst (λ (n : ℕ). All (λ window. IsInWindow window n → ⊥)
              (stimuli_of inputs).schedule.windows) time
              (subst (λ (s : Stimuli). All (λ window. IsInWindow window all.time → ⊥)
              s.schedule.windows) stimuli still.unswitched));
        }
