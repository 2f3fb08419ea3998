-- A session that goes after another one stops accepting goes only once that one has finished.
use Rattle.std.proofs.Common.{◌≡◌, ◌≤◌, ◌<◌, ◌⊎◌, ◌∙◌, ℕ, List, [], ◌∷◌, Contains, Option, Some}
use Rattle.std.proofs.Common.{None, ap, subst, inl, inr, arith, IfSome, Ok, option_map}
use Rattle.std.proofs.lemmas.{Bool.cases_Bool, Option.same_Some}
use Rattle.aeth_base.proofs.Members.{Contains-nil, map-Contains}
use Rattle.aeth_group.specs.Members.{GroupsData, has_at, is_kept}
use Rattle.aeth_trace.specs.{Spans.SpanData, Switches.are_apart}
use Rattle.aeth_trace.specs.{declared.switches.SwitchRow.SwitchRow}
use Rattle.aeth_report.specs.declared.session.{Close.Close, Session.Session}
use Rattle.aeth_report.specs.Sessions.{Stay, Switch, close_by, closing_in, go_by, go_of, opens}
use Rattle.aeth_report.specs.Sessions.{session_of, sessions_of, stays_behind, stays_from, stays_of}
use Rattle.aeth_report.proofs.SessionMeetings.{AreInTime, in_time}
use Rattle.aeth_report.proofs.Stays.{stay_with-cases, switch_of}
use Rattle.aeth_report.proofs.StayMeetings.{from_row, kept_on}

module _ (groups : GroupsData) (spans : SpanData) where
  -- What a switch closes accepts words until its cycle.
  abbrev until_of : Switch → ℕ
  until_of switch = (close_by spans switch).until

  -- A stay closes at `low` or later, if at all.
  abbrev ClosesFrom : ℕ → Stay → Type 0
  ClosesFrom low s = IfSome s.closing (λ switch. low ≤ until_of switch)

  -- So does the stay that is opened, by rows in time.
  opened-closes : (c : ℕ) (rows : List SwitchRow) (u low : ℕ) → AreInTime spans u low rows
      → IfSome (closing_in groups c u rows) (λ switch. low ≤ until_of switch)
  opened-closes c [] u low times = tt
  opened-closes c (row ∷ rows) u low times =
      let v = row.to.0 in
      let first = times.0 in
      elim (cases_Bool (is_kept groups u v c)) [
        | inl kept ↦
            let go = go_by spans (switch_of u row) in
            let more : (o : Option Switch) → IfSome o (λ switch. go ≤ until_of switch)
            → IfSome o (λ switch. low ≤ until_of switch) = elim [
              | None ↦ λ late. tt
              | Some switch ↦ λ late. omega arith
            ] in
            rw kept (more (closing_in groups c v rows) (opened-closes c rows v go times.1))
        | inr shut ↦ rw shut first
      ]

  -- And those that rows open.
  behind-closes : (c : ℕ) (rows : List SwitchRow) (u low : ℕ) → AreInTime spans u low rows
      → (s : Stay) → Contains (stays_behind groups c u rows) s → ClosesFrom low s
  behind-closes c [] u low times s has = Contains-nil has
  behind-closes c (row ∷ rows) u low times s has =
      let v = row.to.0 in
      let first = times.0 in
      let go = go_by spans (switch_of u row) in
      let more : (o : Option Switch) → IfSome o (λ switch. go ≤ until_of switch)
      → IfSome o (λ switch. low ≤ until_of switch) = elim [
        | None ↦ λ late. tt
        | Some switch ↦ λ late. omega arith
      ] in
      let opening = Some (switch_of u row) in
      let behind = stays_behind groups c v rows in
      elim (stay_with-cases groups c (opens groups u v c) opening v rows behind s has) [
        | inl here ↦ subst (λ (x : Stay). ClosesFrom low x) here.1
            (more (closing_in groups c v rows) (opened-closes c rows v go times.1))
        | inr there ↦ more s.closing (behind-closes c rows v go times.1 s there)
      ]

  -- And each of them once it goes.
  behind-after : (c : ℕ) (rows : List SwitchRow) (u low : ℕ) → AreInTime spans u low rows
      → (s : Stay) → Contains (stays_behind groups c u rows) s
      → ClosesFrom (go_of spans s.opening) s
  behind-after c [] u low times s has = Contains-nil has
  behind-after c (row ∷ rows) u low times s has =
      let v = row.to.0 in
      let go = go_by spans (switch_of u row) in
      let opening = Some (switch_of u row) in
      let behind = stays_behind groups c v rows in
      elim (stay_with-cases groups c (opens groups u v c) opening v rows behind s has) [
        | inl here ↦ subst (λ (x : Stay). ClosesFrom (go_of spans x.opening) x) here.1
            (opened-closes c rows v go times.1)
        | inr there ↦ behind-after c rows v go times.1 s there
      ]

  -- Those that rows open go at `low` or later.
  pub behind-goes : (c : ℕ) (rows : List SwitchRow) (u low : ℕ) → AreInTime spans u low rows
      → (s : Stay) → Contains (stays_behind groups c u rows) s → low ≤ go_of spans s.opening
  behind-goes c [] u low times s has = Contains-nil has
  behind-goes c (row ∷ rows) u low times s has =
      let v = row.to.0 in
      let first = times.0 in
      let go = go_by spans (switch_of u row) in
      let opening = Some (switch_of u row) in
      let behind = stays_behind groups c v rows in
      elim (stay_with-cases groups c (opens groups u v c) opening v rows behind s has) [
        | inl here ↦
            let same : go ≡ go_of spans s.opening =
            ap (λ (x : Stay). go_of spans x.opening) here.1 in
            omega arith
        | inr there ↦ let later = behind-goes c rows v go times.1 s there in omega arith
      ]

  -- And those of a row and later ones once what the row closes is finished.
  row-goes : (c u low : ℕ) (row : SwitchRow) (rows : List SwitchRow)
      → AreInTime spans u low (row ∷ rows) → (s : Stay)
      → Contains (stays_behind groups c u (row ∷ rows)) s
      → (close_by spans (switch_of u row)).fin ≤ go_of spans s.opening
  row-goes c u low row rows times s has =
      let v = row.to.0 in
      let go = go_by spans (switch_of u row) in
      let opening = Some (switch_of u row) in
      let behind = stays_behind groups c v rows in
      elim (stay_with-cases groups c (opens groups u v c) opening v rows behind s has) [
        | inl here ↦
            let same : go ≡ go_of spans s.opening =
            ap (λ (x : Stay). go_of spans x.opening) here.1 in
            omega arith
        | inr there ↦ let later = behind-goes c rows v go times.1 s there in omega arith
      ]

  -- A stay goes by the time another one stops accepting words, or once that one is finished.
  abbrev IsBeside : Stay → Stay → Type 0
  IsBeside s e = IfSome s.closing (λ switch. (go_of spans e.opening ≤ until_of switch)
      ⊎ ((close_by spans switch).fin ≤ go_of spans e.opening))

  -- Where it closes late enough, the first is so.
  early : (s e : Stay) (low : ℕ) → ClosesFrom low s → go_of spans e.opening ≤ low → IsBeside s e
  early s e low closes goes =
      let cases : (o : Option Switch) → IfSome o (λ switch. low ≤ until_of switch)
      → IfSome o (λ switch. (go_of spans e.opening ≤ until_of switch)
      ⊎ ((close_by spans switch).fin ≤ go_of spans e.opening)) = elim [
        | None ↦ λ late. tt
        | Some switch ↦ λ late. inl (omega arith)
      ] in
      cases s.closing closes

  -- A stay from a use case on closes at `low` or later.
  from-closes : (c : ℕ) (rows : List SwitchRow) (u low : ℕ) (p : Option Switch)
      → AreInTime spans u low rows → (s : Stay) → Contains (stays_from groups c p u rows) s
      → ClosesFrom low s
  from-closes c rows u low p times s has =
      let behind = stays_behind groups c u rows in
      elim (stay_with-cases groups c (has_at groups u c) p u rows behind s has) [
        | inl here ↦ subst (λ (x : Stay). ClosesFrom low x) here.1
            (opened-closes c rows u low times)
        | inr there ↦ behind-closes c rows u low times s there
      ]

  -- Of two stays from a use case on one goes so beside the other.
  stays-beside : (rows : List SwitchRow) (u low c d : ℕ) (p q : Option Switch)
      → AreInTime spans u low rows → go_of spans p ≤ low → go_of spans q ≤ low → (s e : Stay)
      → Contains (stays_from groups c p u rows) s → Contains (stays_from groups d q u rows) e
      → IsBeside s e
  stays-beside [] u low c d p q times goes too s e has_s has_e =
      elim (stay_with-cases groups c (has_at groups u c) p u [] [] s has_s) [
        | inr there ↦ Contains-nil there
        | inl here ↦ subst (λ (x : Stay). IsBeside x e) here.1 tt
      ]
  stays-beside (row ∷ rows) u low c d p q times goes too s e has_s has_e =
      let v = row.to.0 in
      let go = go_by spans (switch_of u row) in
      let opening = Some (switch_of u row) in
      let all = row ∷ rows in
      let behind = λ (x : ℕ). stays_behind groups x u all in
      let first = times.0 in
      elim (stay_with-cases groups d (has_at groups u d) q u all (behind d) e has_e) [
        | inl here ↦
            let same : go_of spans q ≡ go_of spans e.opening =
            ap (λ (x : Stay). go_of spans x.opening) here.1 in
            early s e low (from-closes c all u low p times s has_s) (omega arith)
        | inr there ↦
            elim (stay_with-cases groups c (has_at groups u c) p u all (behind c) s has_s) [
              | inl here_s ↦ elim (cases_Bool (is_kept groups u v c)) [
                | inl kept ↦ stays-beside rows v go c d p opening times.1 (omega arith)
                    (omega arith) s e
                    (subst (λ (z : Stay). Contains (stays_from groups c p v rows) z) here_s.1
                    (kept_on groups c u p row rows kept))
                    (from_row groups d u row rows e there)
                | inr shut ↦ subst (λ (x : Stay). IsBeside x e) here_s.1
                    (rw shut (inr (row-goes d u low row rows times e there)))
              ]
              | inr there_s ↦ stays-beside rows v go c d opening opening times.1 (omega arith)
                  (omega arith) s e (from_row groups c u row rows s there_s)
                  (from_row groups d u row rows e there)
            ]
      ]

  -- A session that goes after another one stops accepting words goes once that one has finished.
  pub sessions_follow : (rows : List SwitchRow) (c d : ℕ) → are_apart spans rows ≡ Ok tt
      → (s e : Session) → Contains (sessions_of groups spans c rows) s
      → Contains (sessions_of groups spans d rows) e → (close : Close) → s.close ≡ Some close
      → close.until < e.go → close.fin ≤ e.go
  sessions_follow [] c d apart s e has_s has_e close is late = Contains-nil has_s
  sessions_follow (first ∷ rows) c d apart s e has_s has_e close is late =
      let all = first ∷ rows in
      let one = map-Contains (session_of spans) (stays_of groups c all) s has_s in
      let two = map-Contains (session_of spans) (stays_of groups d all) e has_e in
      let go : go_of spans two.0.opening ≡ e.go = ap (λ (z : Session). z.go) two.1 in
      let same : option_map (close_by spans) one.0.closing ≡ Some close =
      ap (λ (z : Session). z.close) one.1 ∙ is in
      let beside = stays-beside rows first.to.0 0 c d None None
      (in_time spans first.to.0 0 2 rows apart) (omega arith) (omega arith) one.0 two.0 one.2
      two.2 in
      let cases : (o : Option Switch) → option_map (close_by spans) o ≡ Some close
      → IfSome o (λ switch. (go_of spans two.0.opening ≤ until_of switch)
      ⊎ ((close_by spans switch).fin ≤ go_of spans two.0.opening)) → close.fin ≤ e.go = elim [
        | None ↦ λ none beside. absurd (cc none)
        | Some switch ↦ λ some beside.
            let closed = same_Some (close_by spans switch) close some in
            let until : until_of switch ≡ close.until = ap (λ (z : Close). z.until) closed in
            let fin : (close_by spans switch).fin ≡ close.fin = ap (λ (z : Close). z.fin) closed in
            elim beside [
              | inl before ↦ absurd (omega arith)
              | inr after ↦ omega arith
            ]
      ] in
      cases one.0.closing same beside

  -- Each stay of a list of switches closes once it goes, if at all.
  pub stays-after : (rows : List SwitchRow) (c : ℕ) → are_apart spans rows ≡ Ok tt → (s : Stay)
      → Contains (stays_of groups c rows) s → ClosesFrom (go_of spans s.opening) s
  stays-after [] c apart s has = Contains-nil has
  stays-after (first ∷ rows) c apart s has =
      let u = first.to.0 in
      let times = in_time spans u 0 2 rows apart in
      let behind = stays_behind groups c u rows in
      elim (stay_with-cases groups c (has_at groups u c) None u rows behind s has) [
        | inl here ↦ subst (λ (x : Stay). ClosesFrom (go_of spans x.opening) x) here.1
            (opened-closes c rows u 0 times)
        | inr there ↦ behind-after c rows u 0 times s there
      ]

  -- So a session stops accepting words once it goes.
  pub sessions_after : (rows : List SwitchRow) (c : ℕ) → are_apart spans rows ≡ Ok tt
      → (s : Session) → Contains (sessions_of groups spans c rows) s → (close : Close)
      → s.close ≡ Some close → s.go ≤ close.until
  sessions_after rows c apart s has close is =
      let found = map-Contains (session_of spans) (stays_of groups c rows) s has in
      let go : go_of spans found.0.opening ≡ s.go = ap (λ (z : Session). z.go) found.1 in
      let same : option_map (close_by spans) found.0.closing ≡ Some close =
      ap (λ (z : Session). z.close) found.1 ∙ is in
      let cases : (o : Option Switch) → option_map (close_by spans) o ≡ Some close
      → IfSome o (λ switch. go_of spans found.0.opening ≤ until_of switch)
      → s.go ≤ close.until = elim [
        | None ↦ λ none after. absurd (cc none)
        | Some switch ↦ λ some after.
            let closed = same_Some (close_by spans switch) close some in
            let until : until_of switch ≡ close.until = ap (λ (z : Close). z.until) closed in
            omega arith
      ] in
      cases found.0.closing same (stays-after rows c apart found.0 found.2)
