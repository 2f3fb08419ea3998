-- Of a connection's sessions in their order the last that has gone is the only one that may inject.
use Rattle.std.proofs.Common.{◌≡◌, ◌≤◌, ◌<◌, ◌∙◌, ◌+◌, ℕ, zero, suc, List, [], ◌∷◌, Contains}
use Rattle.std.proofs.Common.{Option, Some, None, slice_get, sym, refl, ap, subst, inl, inr, arith}
use Rattle.std.proofs.Common.{IfSome, Ok, option_map, unwrap_or}
use Rattle.std.proofs.lemmas.{Bool.cases_Bool, Bool.cases_lt, Option.same_Some}
use Rattle.aeth_base.{specs.Limits.max_path_delay, specs.declared.ids.Channel.Channel}
use Rattle.aeth_base.{specs.declared.ids.Side.TheVariants.Fwd, proofs.Members.map-Contains}
use Rattle.aeth_group.specs.Members.{GroupsData, has_at}
use Rattle.aeth_trace.specs.{Spans.SpanData, Switches.are_apart}
use Rattle.aeth_trace.specs.{declared.switches.SwitchRow.SwitchRow}
use Rattle.aeth_report.specs.declared.session.{Close.Close, Session.Session}
use Rattle.aeth_report.specs.Flows.{Run, sessions_in}
use Rattle.aeth_report.specs.Sessions.{IsInUse, MayInject, Stay, Switch, close_by, go_by, go_of}
use Rattle.aeth_report.specs.Sessions.{opens, session_of, sessions_of, stays_behind, stays_of}
use Rattle.aeth_report.specs.Sound.{IsSound}
use Rattle.aeth_report.proofs.ClosingLemmas.{lands_by_finish, session-delay}
use Rattle.aeth_report.proofs.SessionMeetings.{AreInTime, in_time, mapped_at, sessions_alone}
use Rattle.aeth_report.proofs.SessionOrder.{behind-goes, sessions_after, sessions_follow}
use Rattle.aeth_report.proofs.Stays.{switch_of}
use Rattle.aeth_report.proofs.StaysAlone.{at-Contains}

module _ (groups : GroupsData) (spans : SpanData) (c : ℕ) where
  -- Stays go in their order.
  abbrev Rise : List Stay → Type 0
  Rise stays = (i j : ℕ) (s e : Stay) → i ≤ j → slice_get stays i ≡ Some s → slice_get stays j ≡ Some e
      → go_of spans s.opening ≤ go_of spans e.opening

  rise-cons : (stay : Stay) (stays : List Stay)
      → ((e : Stay) → Contains stays e → go_of spans stay.opening ≤ go_of spans e.opening) → Rise stays
      → Rise (stay ∷ stays)
  rise-cons stay stays first rest zero zero s e up at_s at_e =
      let one = same_Some stay s at_s in
      let two = same_Some stay e at_e in
      let same : go_of spans s.opening ≡ go_of spans e.opening =
      ap (λ (x : Stay). go_of spans x.opening) (sym one ∙ two) in
      omega arith
  rise-cons stay stays first rest zero (suc j) s e up at_s at_e =
      let one = same_Some stay s at_s in
      let same : go_of spans stay.opening ≡ go_of spans s.opening =
      ap (λ (x : Stay). go_of spans x.opening) one in
      let later = first e (at-Contains stays j e at_e) in
      omega arith
  rise-cons stay stays first rest (suc i) zero s e up at_s at_e = absurd (omega arith)
  rise-cons stay stays first rest (suc i) (suc j) s e up at_s at_e =
      rest i j s e (omega arith) at_s at_e

  behind-rise : (rows : List SwitchRow) (u low : ℕ) → AreInTime spans u low rows
      → Rise (stays_behind groups c u rows)
  behind-rise [] u low times = λ i j s e up at_s at_e. absurd (cc at_s)
  behind-rise (row ∷ rows) u low times =
      let v = row.to.0 in
      let go = go_by spans (switch_of u row) in
      let rest = behind-rise rows v go times.1 in
      elim (cases_Bool (opens groups u v c)) [
        | inl opened ↦ rw opened (rise-cons _ (stays_behind groups c v rows)
            (λ e has. behind-goes groups spans c rows v go times.1 e has) rest)
        | inr shut ↦ rw shut rest
      ]

  all-rise : (rows : List SwitchRow) → are_apart spans rows ≡ Ok tt → Rise (stays_of groups c rows)
  all-rise [] apart = λ i j s e up at_s at_e. absurd (cc at_s)
  all-rise (first ∷ rows) apart =
      let u = first.to.0 in
      let times = in_time spans u 0 2 rows apart in
      let rest = behind-rise rows u 0 times in
      elim (cases_Bool (has_at groups u c)) [
        | inl has ↦ rw has (rise-cons _ (stays_behind groups c u rows)
            (λ e is. behind-goes groups spans c rows u 0 times e is) rest)
        | inr hasnt ↦ rw hasnt rest
      ]

  -- So do sessions.
  pub sessions_rise : (rows : List SwitchRow) → are_apart spans rows ≡ Ok tt → (i j : ℕ) (s e : Session)
      → i ≤ j → slice_get (sessions_of groups spans c rows) i ≡ Some s
      → slice_get (sessions_of groups spans c rows) j ≡ Some e → s.go ≤ e.go
  sessions_rise rows apart i j s e up at_s at_e =
      let one = mapped_at (session_of spans) (stays_of groups c rows) i s at_s in
      let two = mapped_at (session_of spans) (stays_of groups c rows) j e at_e in
      let go_s = ap (λ (x : Session). x.go) one.2 in
      let go_e = ap (λ (x : Session). x.go) two.2 in
      let rise = all-rise rows apart i j one.0 two.0 up one.1 two.1 in
      omega arith

module _ (run : Run) (sound : IsSound run) (c : ℕ) where
  abbrev all : List Session
  all = sessions_in run c

  abbrev fwd : Channel
  fwd = record { conn = record { 0 = c }; side = Fwd }

  -- What closes a session finishes behind its stop.
  stops-early : (s : Session) → Contains (sessions_in run c) s → (close : Close) → s.close ≡ Some close
      → close.stop < close.fin
  stops-early s has close is =
      let lands = lands_by_finish run sound fwd s has in
      let some = (session-delay run sound fwd s has).some in
      let past : Close = record {
        until = run.cycles;
        stop = run.cycles;
        fin = run.cycles + max_path_delay;
      } in
      let own = ap (λ (o : Option Close). unwrap_or o past) is in
      let stop : (unwrap_or s.close past).stop ≡ close.stop = ap (λ (x : Close). x.stop) own in
      let fin : (unwrap_or s.close past).fin ≡ close.fin = ap (λ (x : Close). x.fin) own in
      omega arith

  -- It accepts words no longer than it sends them.
  until-first : (s : Session) → Contains (sessions_in run c) s → (close : Close) → s.close ≡ Some close
      → close.until ≤ close.stop
  until-first s has close is =
      let found = map-Contains (session_of run.spans) (stays_of run.design.groups c run.switches) s has in
      let same : option_map (close_by run.spans) found.0.closing ≡ Some close =
      ap (λ (z : Session). z.close) found.1 ∙ is in
      let cases : (o : Option Switch) → option_map (close_by run.spans) o ≡ Some close
      → close.until ≤ close.stop = elim [
        | None ↦ λ none. absurd (cc none)
        | Some switch ↦ λ some.
            let closed = same_Some (close_by run.spans switch) close some in
            let until : (close_by run.spans switch).until ≡ close.until = ap (λ (z : Close). z.until) closed in
            let stop : (close_by run.spans switch).stop ≡ close.stop = ap (λ (z : Close). z.stop) closed in
            omega arith
      ] in
      cases found.0.closing same

  -- It is in use when it goes.
  pub used-first : (s : Session) → Contains (sessions_in run c) s → IsInUse s s.go
  used-first s has =
      let cases : (o : Option Close) → s.close ≡ o → IfSome o (λ close. s.go < close.fin) = elim [
        | None ↦ λ is. tt
        | Some close ↦ λ is.
            let go = sessions_after run.design.groups run.spans run.switches c sound.apart s has close is in
            let early = stops-early s has close is in
            let first = until-first s has close is in
            omega arith
      ] in
      record { goes = omega arith; unfinished = cases s.close refl }

  -- Where a later one has gone, an earlier one may inject no more.
  pub last_gone : (j k u : ℕ) (e s : Session) → slice_get (sessions_in run c) j ≡ Some e
      → slice_get (sessions_in run c) k ≡ Some s → j < k → s.go ≤ u → MayInject e u → ⊥
  last_gone j k u e s at_e at_s before gone may =
      let has_e = at-Contains (sessions_in run c) j e at_e in
      let has_s = at-Contains (sessions_in run c) k s at_s in
      let rise = sessions_rise run.design.groups run.spans c run.switches sound.apart j k e s (omega arith) at_e
      at_s in
      let alone : IsInUse e s.go → ⊥ = λ used.
      let one = sessions_alone run.design.groups run.spans run.switches c s.go sound.apart j k e s at_e at_s used
      (used-first s has_s) in omega arith in
      let cases : (o : Option Close) → e.close ≡ o → IfSome o (λ close. u < close.stop) → ⊥ = elim [
        | None ↦ λ is sends. alone (record {
          goes = rise;
          unfinished = subst (λ (o : Option Close). IfSome o (λ close. s.go < close.fin)) (sym is) tt;
        })
        | Some close ↦ λ is sends.
            let early = stops-early e has_e close is in
            let first = until-first e has_e close is in
            elim (cases_lt close.until s.go) [
              | inl behind ↦
                  let after = sessions_follow run.design.groups run.spans run.switches c c sound.apart e s has_e
                  has_s close is behind in
                  omega arith
              | inr within ↦ alone (record {
                goes = rise;
                unfinished = subst (λ (o : Option Close). IfSome o (λ close. s.go < close.fin)) (sym is)
                    (omega arith);
              })
            ]
      ] in
      cases e.close refl may.unstopped
