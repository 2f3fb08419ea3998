-- The sessions of a connection come one after the other: each has gone and is finished before a later
-- one goes.
use Rattle.std.proofs.Common.{◌≡◌, ◌≤◌, ◌<◌, ◌∙◌, ℕ, List, [], ◌∷◌, Option, Some, None, ap, arith}
use Rattle.std.proofs.Common.{length, slice_get, subst, sym, IfSome, Ok, option_map}
use Rattle.std.proofs.lemmas.List.Elements.{All-head, All-tail}
use Rattle.aeth_group.specs.Members.{GroupsData, groups_of}
use Rattle.aeth_trace.specs.{Spans.SpanData, Switches.are_apart}
use Rattle.aeth_trace.specs.{declared.switches.SwitchRow.SwitchRow}
use Rattle.aeth_report.specs.{declared.session.Session.Session, Flows.sessions_in, Sessions.Stay}
use Rattle.aeth_report.specs.{Sessions.Switch, Sessions.close_by, Sessions.go_of}
use Rattle.aeth_report.specs.{Sessions.session_of, Sessions.sessions_of, Sessions.stays_of}
use Rattle.aeth_report.proofs.{SessionMeetings.in_time, SessionMeetings.mapped_at}
use Rattle.aeth_report.proofs.{SessionOrder.stays-after, Stays.AreKnown, Stays.IsKnown}
use Rattle.aeth_report.proofs.{StaysAlone.at-Contains}
use Rattle.aeth_reconf.specs.Windows.{clears_from}
use Rattle.aeth_reconf.proofs.OneWritten.{clears-between, rising}
use Rattle.aeth_reconf.proofs.StayTurns.{opened_at, stays-turn}
use Rattle.aeth_accepted.specs.Inputs.{AreAccepted, Inputs, run_of}
use Rattle.aeth_schedule.proofs.SwitchRows.{rows-known}
use Rattle.aeth_stimuli.specs.Sessions.{IsBefore}

-- A stay has gone before a switch closes it, and that is done by the time a later one goes.
pub record Precedes (spans : SpanData) (s e : Stay) : Type 0 where
  pub switch : Switch
  pub closing : s.closing ≡ Some switch
  pub begins : go_of spans s.opening ≤ (close_by spans switch).until
  pub order : (close_by spans switch).fin ≤ go_of spans e.opening

module _ (groups : GroupsData) (spans : SpanData) where
  -- Each stay precedes a later one: what a switch closes is finished before a later one closes anything.
  pub stays-apart : (rows : List SwitchRow) → AreKnown groups rows → are_apart spans rows ≡ Ok tt
      → (c i j : ℕ) (s e : Stay) → i < j → slice_get (stays_of groups c rows) i ≡ Some s
      → slice_get (stays_of groups c rows) j ≡ Some e → Precedes spans s e
  stays-apart [] known apart c i j s e less at_s at_e = absurd (cc at_s)
  stays-apart (first ∷ rows) known apart c i j s e less at_s at_e =
      let later : AreKnown groups rows = All-tail (IsKnown groups) first rows known in
      let turns = stays-turn groups (clears_from spans) c first rows 0
      (rising groups spans (clears_from spans) (clears-between groups spans) first.to.0 0 0 rows
      (All-head (IsKnown groups) first rows known) later (omega arith)
      (in_time spans first.to.0 0 2 rows apart)) in
      let before = turns i j s e less at_s at_e in
      let has = at-Contains (stays_of groups c (first ∷ rows)) i s at_s in
      let begins : go_of spans s.opening ≤ (close_by spans before.switch).until =
      subst (λ (o : Option Switch). IfSome o (λ switch.
      go_of spans s.opening ≤ (close_by spans switch).until)) before.closing
      (stays-after groups spans (first ∷ rows) c apart s has) in
      let goes : (o : Option Switch)
      → clears_from spans before.switch ≤ opened_at groups (clears_from spans) o
      → (close_by spans before.switch).fin ≤ go_of spans o = elim [
        | None ↦ λ late. absurd (omega arith)
        | Some switch ↦ λ late. omega arith
      ] in
      record {
        switch = before.switch;
        closing = before.closing;
        begins = begins;
        order = goes e.opening before.early;
      }

  -- And each session is before a later one.
  pub sessions-before : (rows : List SwitchRow) → AreKnown groups rows
      → are_apart spans rows ≡ Ok tt → (c i j : ℕ) (one other : Session) → i < j
      → slice_get (sessions_of groups spans c rows) i ≡ Some one
      → slice_get (sessions_of groups spans c rows) j ≡ Some other → IsBefore one other
  sessions-before rows known apart c i j one other less at_one at_other =
      let stays = stays_of groups c rows in
      let (s, at_s, is_one) = mapped_at (session_of spans) stays i one at_one in
      let (e, at_e, is_other) = mapped_at (session_of spans) stays j other at_other in
      let before = stays-apart rows known apart c i j s e less at_s at_e in
      let go : go_of spans e.opening ≡ other.go = ap (λ (z : Session). z.go) is_other in
      let order = before.order in
      record {
        closed = close_by spans before.switch;
        is = sym (ap (λ (z : Session). z.close) is_one)
            ∙ ap (option_map (close_by spans)) before.closing;
        order = omega (arith, go, order);
      }

module _ (inputs : Inputs) (accepted : AreAccepted inputs) where
  -- So it is with the stays of accepted inputs.
  pub stays-ordered : (c i j : ℕ) (s e : Stay) → i < j
      → slice_get (stays_of (groups_of inputs.app) c inputs.switches) i ≡ Some s
      → slice_get (stays_of (groups_of inputs.app) c inputs.switches) j ≡ Some e
      → Precedes (run_of inputs).spans s e
  stays-ordered = stays-apart (groups_of inputs.app) (run_of inputs).spans inputs.switches
      (rows-known inputs accepted) accepted.switches.apart

  -- And with their sessions.
  pub sessions-ordered : (c i j : ℕ) (one other : Session) → c < length inputs.app.connections
      → i < j → slice_get (sessions_in (run_of inputs) c) i ≡ Some one
      → slice_get (sessions_in (run_of inputs) c) j ≡ Some other → IsBefore one other
  sessions-ordered c i j one other known = sessions-before (groups_of inputs.app)
      (run_of inputs).spans inputs.switches (rows-known inputs accepted)
      accepted.switches.apart c i j one other
