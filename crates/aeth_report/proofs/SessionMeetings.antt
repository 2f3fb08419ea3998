-- Two sessions that are in use in one cycle are together in one group, and of one connection they
-- are one: by the finish of what each switch closes.
use Rattle.std.proofs.Common.{◌≡◌, ◌≤◌, ◌<◌, ◌∙◌, ℕ, ◌+◌, List, [], ◌∷◌, Contains, Option, Some}
use Rattle.std.proofs.Common.{None, slice_get, sym, ap, subst, inl, inr, arith, le-ltb, lt-ltb}
use Rattle.std.proofs.Common.{IfSome, Ok, option_map}
use Rattle.std.proofs.lemmas.Bool.{cases_lt}
use Rattle.std.specs.Prelude.{⊤}
use Rattle.aeth_base.proofs.Members.{Contains-nil, map-Contains}
use Rattle.aeth_group.specs.Members.{GroupsData}
use Rattle.aeth_trace.specs.{Spans.SpanData, Switches.are_apart, Switches.are_apart_from}
use Rattle.aeth_trace.specs.{declared.switches.SwitchRow.SwitchRow}
use Rattle.aeth_report.specs.declared.session.Session.{Session}
use Rattle.aeth_report.specs.Sessions.{AreTogether, IsInUse, Stay, Switch, close_by, go_by, go_of}
use Rattle.aeth_report.specs.Sessions.{session_of, sessions_of, stays_of}
use Rattle.aeth_report.proofs.{Stays.switch_of, StayMeetings.AreRising, StayMeetings.Covers}
use Rattle.aeth_report.proofs.{StayMeetings.Meet, StayMeetings.stays_meet, StaysAlone.stays_alone}
pub use Rattle.aeth_base.proofs.Lists.{map-slice_get as mapped_at}

-- Behind use case u, no row comes before `low`, and none before the channels are in use that the row
-- before it opens.
abbrev pub AreInTime : SpanData → ℕ → ℕ → List SwitchRow → Type 0
AreInTime spans u low [] = ⊤
AreInTime spans u low (row ∷ rows) =
    (low ≤ row.cycle) × AreInTime spans row.to.0 (go_by spans (switch_of u row)) rows

-- So it is where the rule on them isn't broken.
pub in_time : (spans : SpanData) (u low place : ℕ) (rows : List SwitchRow)
    → are_apart_from spans u low place rows ≡ Ok tt → AreInTime spans u low rows
in_time spans u low place [] is = tt
in_time spans u low place (row ∷ rows) is = elim (cases_lt row.cycle low) [
  | inl early ↦ absurd (cc (rw (lt-ltb row.cycle low early) at is))
  | inr late ↦ (
    late,
    in_time spans row.to.0 (go_by spans (switch_of u row)) (place + 1) rows
        (rw (le-ltb row.cycle low late) at is),
  )
]

module _ (groups : GroupsData) (spans : SpanData) where
  -- When what a switch closes is finished.
  abbrev pub finish_by : Switch → ℕ
  finish_by switch = (close_by spans switch).fin

  -- Rows in time finish one after the other.
  pub rising : (u low before : ℕ) (rows : List SwitchRow) → before ≤ low → AreInTime spans u low rows
      → AreRising groups finish_by u before rows
  rising u low before [] le times = tt
  rising u low before (row ∷ rows) le times =
      let first = times.0 in
      let switch = switch_of u row in (
        omega arith,
        rising row.to.0 (go_by spans switch) (finish_by switch) rows (omega arith) times.1,
      )

  -- A stay is in the tables from the finish of the switch that opens it to its own.
  abbrev pub IsInTables : Stay → ℕ → Type 0
  IsInTables s t = Covers groups finish_by s t

  -- So is one whose session is in use.
  covers : (s : Stay) (t : ℕ) → IsInUse (session_of spans s) t → IsInTables s t
  covers s t used =
      let openings : (o : Option Switch) → go_of spans o ≤ t
      → IfSome o (λ switch. finish_by switch ≤ t) = elim [
        | None ↦ λ goes. tt
        | Some switch ↦ λ goes. omega arith
      ] in
      let closings : (o : Option Switch)
      → IfSome (option_map (close_by spans) o) (λ close. t < close.fin)
      → IfSome o (λ switch. t < finish_by switch) = elim [
        | None ↦ λ ends. tt
        | Some switch ↦ λ ends. ends
      ] in
      record {
        opened_by = openings s.opening used.goes;
        closed_by = closings s.closing used.unfinished;
      }

  -- Two stays that are in the tables in one cycle are together.
  pub stays_meet_in_tables : (rows : List SwitchRow) (c d t : ℕ) → are_apart spans rows ≡ Ok tt
      → (s e : Stay) → Contains (stays_of groups c rows) s → Contains (stays_of groups d rows) e
      → IsInTables s t → IsInTables e t → Meet groups c d s e
  stays_meet_in_tables [] c d t apart s e has_s has_e on_s on_e = Contains-nil has_s
  stays_meet_in_tables (first ∷ rows) c d t apart s e has_s has_e on_s on_e =
      stays_meet groups finish_by rows first.to.0 0 c d None None t
      (rising first.to.0 0 0 rows (omega arith) (in_time spans first.to.0 0 2 rows apart)) s e has_s
      has_e on_s on_e

  -- Of one connection they are one.
  pub stays_alone_in_tables : (rows : List SwitchRow) (c t : ℕ) → are_apart spans rows ≡ Ok tt
      → (i j : ℕ) (s e : Stay) → slice_get (stays_of groups c rows) i ≡ Some s
      → slice_get (stays_of groups c rows) j ≡ Some e → IsInTables s t → IsInTables e t → i ≡ j
  stays_alone_in_tables [] c t apart i j s e at_s at_e on_s on_e = absurd cc
  stays_alone_in_tables (first ∷ rows) c t apart i j s e at_s at_e on_s on_e =
      stays_alone groups finish_by c rows None first.to.0 0 t
      (rising first.to.0 0 0 rows (omega arith) (in_time spans first.to.0 0 2 rows apart)) i j s e
      at_s at_e on_s on_e

  -- What two sessions with a common cycle are.
  pub record SessionsMeet (c d : ℕ) (s e : Session) : Type 0 where
    pub group : s.group.0 ≡ e.group.0
    pub together : AreTogether groups s.group.0 c d

  -- Two sessions that are in use in one cycle are together.
  pub sessions_meet : (rows : List SwitchRow) (c d t : ℕ) → are_apart spans rows ≡ Ok tt
      → (s e : Session) → Contains (sessions_of groups spans c rows) s
      → Contains (sessions_of groups spans d rows) e → IsInUse s t → IsInUse e t
      → SessionsMeet c d s e
  sessions_meet rows c d t apart s e has_s has_e used_s used_e =
      let one = map-Contains (session_of spans) (stays_of groups c rows) s has_s in
      let two = map-Contains (session_of spans) (stays_of groups d rows) e has_e in
      let used = λ (z : Session). IsInUse z t in
      let meet = stays_meet_in_tables rows c d t apart one.0 two.0 one.2 two.2
      (covers one.0 t (subst used (sym one.1) used_s))
      (covers two.0 t (subst used (sym two.1) used_e)) in
      let group_s : one.0.group ≡ s.group.0 = ap (λ (z : Session). z.group.0) one.1 in
      let group_e : two.0.group ≡ e.group.0 = ap (λ (z : Session). z.group.0) two.1 in
      record {
        group = sym group_s ∙ meet.group ∙ group_e;
        together = subst (λ (g : ℕ). AreTogether groups g c d) group_s meet.together;
      }

  -- Of one connection they are one.
  pub sessions_alone : (rows : List SwitchRow) (c t : ℕ) → are_apart spans rows ≡ Ok tt
      → (i j : ℕ) (s e : Session) → slice_get (sessions_of groups spans c rows) i ≡ Some s
      → slice_get (sessions_of groups spans c rows) j ≡ Some e → IsInUse s t → IsInUse e t → i ≡ j
  sessions_alone rows c t apart i j s e at_s at_e used_s used_e =
      let one = mapped_at (session_of spans) (stays_of groups c rows) i s at_s in
      let two = mapped_at (session_of spans) (stays_of groups c rows) j e at_e in
      let used = λ (z : Session). IsInUse z t in
      stays_alone_in_tables rows c t apart i j one.0 two.0 one.1 two.1
      (covers one.0 t (subst used (sym one.2) used_s))
      (covers two.0 t (subst used (sym two.2) used_e))
