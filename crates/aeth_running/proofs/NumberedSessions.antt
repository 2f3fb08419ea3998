-- The routed sessions of accepted inputs, by their numbers: each is one of a known channel, and
-- those of one channel come one after the other.
use Rattle.std.proofs.Common.{◌≡◌, ◌≤◌, ◌<◌, ◌∙◌, ◌+◌, ℕ, Option, Some, None, length, slice_get}
use Rattle.std.proofs.Common.{refl, ap, inl, inr, arith, IfSome, max, option_map, unwrap_or}
use Rattle.std.proofs.Math.Nat.{le-max_right}
use Rattle.std.proofs.lemmas.{Bool.cases_order, Option.slice_get_within}
use Rattle.aeth_base.specs.{Limits.max_path_delay, declared.ids.Channel.Channel}
use Rattle.aeth_group.proofs.MemberLemmas.{connections-groups_of}
use Rattle.aeth_report.specs.Flows.{close_at, sessions_in}
use Rattle.aeth_report.specs.Sessions.{Switch, close_by, go_of, session_of}
use Rattle.aeth_report.specs.declared.session.{Close.Close, Session.Session}
use Rattle.aeth_report.specs.SessionList.{listed_at, place_at}
use Rattle.aeth_report.proofs.SessionNumbers.{listed-there, listed-among, one_number}
use Rattle.aeth_reconf.{specs.Windows.IsInOrder, proofs.WindowLemmas.in_order}
use Rattle.aeth_invariant.specs.{WellRouted.AreWellRouted, RoutedSessions.server_at}
use Rattle.aeth_accepted.specs.Inputs.{AreAccepted, Inputs, row_at, run_of}
use Rattle.aeth_accepted.proofs.SoundRuns.{AreSpans, is_sound}
use Rattle.aeth_routed_sessions.specs.RoutedSessions.{routed_sessions_of}
use Rattle.aeth_routed_sessions.proofs.WritableRuns.{writable}
use Rattle.aeth_running.proofs.ChannelNumbers.{channel-same}
use Rattle.aeth_stimuli.specs.Sessions.{IsBefore, channel_of}

-- How a session closes that no switch closes, as the routed sessions have it.
abbrev pub past_of : ℕ → ℕ → Close
past_of cycles go = record {
  until = cycles;
  stop = max cycles go;
  fin = max cycles go + max_path_delay;
}

-- Where it goes within the run, that is as the run has it.
pub close-within : (cycles : ℕ) (session : Session) → session.go ≤ cycles
    → close_at cycles session ≡ unwrap_or session.close (past_of cycles session.go)
close-within cycles session within =
    let same : cycles ≡ max cycles session.go = omega arith in
    ap (λ (last : ℕ). unwrap_or session.close
    (record { until = cycles; stop = last; fin = last + max_path_delay })) same

-- It accepts words as long in both.
pub until-same : (cycles : ℕ) (session : Session) → (close_at cycles session).until
    ≡ (unwrap_or session.close (past_of cycles session.go)).until
until-same cycles session =
    let cases : (close : Option Close)
    → (unwrap_or close (record { until = cycles; stop = cycles; fin = cycles + max_path_delay })).until
    ≡ (unwrap_or close (past_of cycles session.go)).until = elim [
      | None ↦ refl
      | Some closed ↦ refl
    ] in
    cases session.close

module _ (inputs : Inputs) where
  -- The session of a number, as the run has it.
  abbrev pub session_at : ℕ → Session
  session_at c = session_of (run_of inputs).spans (listed_at (run_of inputs) c).stay

  -- What stands at a number, with its channel.
  pub placed-known : (c : ℕ) → c < (routed_sessions_of inputs).count
      → (listed_at (run_of inputs) c).channel.conn.0 < length inputs.app.connections
  placed-known c within =
      let known = (listed-there (run_of inputs) c within).known in
      let count = connections-groups_of inputs.app in
      omega (arith, known, count)

  -- Sessions of one channel are one, or one finishes before the other goes.
  pub data Ordered (c d : ℕ) : Type 0 where
    Same : c ≡ d → Ordered c d
    Before : (server_at (routed_sessions_of inputs) c).finish
        ≤ (server_at (routed_sessions_of inputs) d).go
        → Ordered c d
    Behind : (server_at (routed_sessions_of inputs) d).finish
        ≤ (server_at (routed_sessions_of inputs) c).go
        → Ordered c d

  module _ (apart : (c i j : ℕ) (one other : Session) → c < length inputs.app.connections → i < j
      → slice_get (sessions_in (run_of inputs) c) i ≡ Some one
      → slice_get (sessions_in (run_of inputs) c) j ≡ Some other → IsBefore one other) where
    -- A session that another one of its channel follows finishes before that goes.
    closed-before : (cycles : ℕ) (one other : Session) → IsBefore one other
        → (unwrap_or one.close (past_of cycles one.go)).fin ≤ other.go
    closed-before cycles one other before =
        let order = before.order in
        let same = ap (λ (o : Option Close). (unwrap_or o (past_of cycles one.go)).fin) before.is in
        omega (arith, order, same)

    pub ordered : (c d : ℕ) → c < (routed_sessions_of inputs).count
        → d < (routed_sessions_of inputs).count
        → channel_of inputs c ≡ channel_of inputs d → Ordered c d
    ordered c d known_c known_d same =
        let run = run_of inputs in
        let p = listed_at run c in
        let q = listed_at run d in
        let channel = channel-same p.channel q.channel same in
        let conn : p.channel.conn.0 ≡ q.channel.conn.0 =
        ap (λ (one : Channel). one.conn.0) channel in
        let place = place_at run c in
        let other = place_at run d in
        let there : slice_get (sessions_in run p.channel.conn.0) other ≡ Some (session_at d) =
        ap (λ (n : ℕ). slice_get (sessions_in run n) other) conn ∙ listed-among run d known_d in
        let here = listed-among run c known_c in
        let known = placed-known c known_c in
        elim (cases_order place other) [
          | inl equal ↦ Same (one_number run c d known_c known_d channel equal)
          | inr apart_places ↦ elim apart_places [
            | inl less ↦ Before (closed-before run.cycles (session_at c) (session_at d)
                (apart p.channel.conn.0 place other (session_at c) (session_at d) known less here
                there))
            | inr more ↦ Behind (closed-before run.cycles (session_at d) (session_at c)
                (apart p.channel.conn.0 other place (session_at d) (session_at c) known more there
                here))
          ]
        ]

  -- Each goes before it finishes.
  module _ (accepted : AreAccepted inputs) (spans : AreSpans inputs accepted)
      (ok : AreWellRouted (routed_sessions_of inputs)) where
    stops : (c : ℕ) → c < (routed_sessions_of inputs).count
        → (server_at (routed_sessions_of inputs) c).go
        ≤ (server_at (routed_sessions_of inputs) c).stop
    stops c within =
        let run = run_of inputs in
        let p = listed_at run c in
        let is = listed-there run c within in
        let sound = is_sound inputs accepted spans in
        let order : IsInOrder run.design.groups (row_at run.design) run.spans p.channel p.stay =
        in_order run.design.groups (row_at run.design) run.spans run.switches
        (writable inputs accepted spans sound) p.channel (place_at run c) p.stay
        (record { known = is.known; at = is.stay_at }) in
        let go = go_of run.spans p.stay.opening in
        let cases : (o : Option Switch)
        → IfSome o (λ switch. go ≤ (close_by run.spans switch).until)
        → go ≤ (unwrap_or (option_map (close_by run.spans) o) (past_of run.cycles go)).stop = elim [
          | None ↦ λ none. le-max_right run.cycles go
          | Some switch ↦ λ until. omega (arith, until)
        ] in
        cases p.stay.closing order.then_until

    pub goes-first : (c : ℕ) → c < (routed_sessions_of inputs).count
        → (server_at (routed_sessions_of inputs) c).go
        < (server_at (routed_sessions_of inputs) c).finish
    goes-first c within =
        let go = stops c within in
        let drained = (ok.given c within).drained in
        let path = ok.path c within in
        let some = slice_get_within ((routed_sessions_of inputs).routed_session c).wires 0
        path.first path.at in
        omega (arith, go, drained, some)
