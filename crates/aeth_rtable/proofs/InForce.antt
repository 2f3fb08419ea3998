-- The use case in force in a cycle has just the connections of the stays that cover the cycle.
use Rattle.std.proofs.Common.{◌≡◌, ◌≤◌, ◌<◌, ◌∙◌, ℕ, Bool, cond, List, [], ◌∷◌, Contains, Option}
use Rattle.std.proofs.Common.{Some, None, refl, sym, ap, subst, inl, inr, arith, le-ltb, lt-ltb}
use Rattle.std.proofs.Common.{IfSome, IsTrue, Ok, not}
use Rattle.std.proofs.lemmas.Bool.{and_from, cases_Bool, cases_lt, not_from_false}
use Rattle.aeth_base.proofs.Members.{Contains-nil}
use Rattle.aeth_group.specs.Members.{GroupsData, group_at, has_at, is_kept}
use Rattle.aeth_trace.specs.{Spans.SpanData, Switches.are_apart, Switches.is_first_at_zero}
use Rattle.aeth_trace.specs.{declared.switches.SwitchRow.SwitchRow}
use Rattle.aeth_report.specs.Sessions.{Stay, Switch, closing_in, opens, stays_behind, stays_from}
use Rattle.aeth_report.specs.Sessions.{stays_of}
use Rattle.aeth_report.proofs.SessionMeetings.{IsInTables, finish_by, in_time, rising}
use Rattle.aeth_report.proofs.StayMeetings.{AreRising, Covers, closed_before, from_row, kept_on}
use Rattle.aeth_report.proofs.StayMeetings.{row_opens}
use Rattle.aeth_report.proofs.Stays.{kept-is, opened, stay_with-cases, stay_with-here}
use Rattle.aeth_report.proofs.Stays.{stay_with-there, switch_of}
use Rattle.aeth_rtable.specs.InForce.{use_from, use_in_force}

module _ (groups : GroupsData) (spans : SpanData) where
  abbrev bound : Switch → ℕ
  bound switch = finish_by groups spans switch

  -- The use case in force before the finish of a row, and from then on.
  use-before : (t u : ℕ) (row : SwitchRow) (rows : List SwitchRow) → t < bound (switch_of u row)
      → use_from spans t u (row ∷ rows) ≡ u
  use-before t u row rows before =
      ap (λ (b : Bool). cond b u (use_from spans t row.to.0 rows))
      (lt-ltb t (bound (switch_of u row)) before)

  use-behind : (t u : ℕ) (row : SwitchRow) (rows : List SwitchRow) → bound (switch_of u row) ≤ t
      → use_from spans t u (row ∷ rows) ≡ use_from spans t row.to.0 rows
  use-behind t u row rows past =
      ap (λ (b : Bool). cond b u (use_from spans t row.to.0 rows))
      (le-ltb t (bound (switch_of u row)) past)

  -- A use case has the connection of a stay, and is of its group.
  pub record IsOfUse (c u : ℕ) (s : Stay) : Type 0 where
    pub has : IsTrue (has_at groups u c)
    pub group : group_at groups u ≡ s.group

  opened-of : (c u : ℕ) (p : Option Switch) (rows : List SwitchRow) (s : Stay)
      → IsTrue (has_at groups u c) × (opened groups c p u rows ≡ s) → IsOfUse c u s
  opened-of c u p rows s is = record { has = is.0; group = ap (λ (x : Stay). x.group) is.1 }

  -- A stay that covers a cycle is of the use case in force.
  covers-in_force : (rows : List SwitchRow) (u low c : ℕ) (p : Option Switch) (t : ℕ)
      → AreRising groups bound u low rows → (s : Stay) → Contains (stays_from groups c p u rows) s
      → Covers groups bound s t → IsOfUse c (use_from spans t u rows) s
  covers-in_force [] u low c p t rises s has covers =
      elim (stay_with-cases groups c (has_at groups u c) p u [] [] s has) [
        | inl here ↦ opened-of c u p [] s here
        | inr there ↦ Contains-nil there
      ]
  covers-in_force (row ∷ rows) u low c p t rises s has covers =
      let v = row.to.0 in
      let all = row ∷ rows in
      let fin = bound (switch_of u row) in
      let cases = stay_with-cases groups c (has_at groups u c) p u all (stays_behind groups c u all)
      s has in
      elim (cases_lt t fin) [
        | inl before ↦ subst (λ (w : ℕ). IsOfUse c w s) (sym (use-before t u row rows before))
            (elim cases [
              | inl here ↦ opened-of c u p all s here
              | inr there ↦ absurd (
                  let goes = row_opens groups bound c u low t row rows rises s there covers in
                  omega (arith, goes, before))
            ])
        | inr past ↦ subst (λ (w : ℕ). IsOfUse c w s) (sym (use-behind t u row rows past))
            (elim cases [
              | inl here ↦ elim (cases_Bool (is_kept groups u v c)) [
                | inl kept ↦ covers-in_force rows v fin c p t rises.1 s
                    (subst (λ (z : Stay). Contains (stays_from groups c p v rows) z) here.1
                    (kept_on groups c u p row rows kept)) covers
                | inr shut ↦ absurd (
                    let own = subst (λ (z : Stay). Covers groups bound z t) (sym here.1) covers in
                    let ends = closed_before groups bound c u t p row rows shut own in
                    omega (arith, ends, past))
              ]
              | inr there ↦ covers-in_force rows v fin c (Some (switch_of u row)) t rises.1 s
                  (from_row groups c u row rows s there) covers
            ])
      ]

  -- The switch that closes what is opened finishes at `low` or later.
  closes-later : (c : ℕ) (rows : List SwitchRow) (u low : ℕ) → AreRising groups bound u low rows
      → IfSome (closing_in groups c u rows) (λ switch. low ≤ bound switch)
  closes-later c [] u low rises = tt
  closes-later c (row ∷ rows) u low rises =
      let v = row.to.0 in
      let first = rises.0 in
      let limit = bound (switch_of u row) in
      let more : (o : Option Switch) → IfSome o (λ switch. limit ≤ bound switch)
      → IfSome o (λ switch. low ≤ bound switch) = elim [
        | None ↦ λ late. tt
        | Some switch ↦ λ late. omega (arith, late, first)
      ] in
      elim (cases_Bool (is_kept groups u v c)) [
        | inl kept ↦ rw kept (more (closing_in groups c v rows)
            (closes-later c rows v limit rises.1))
        | inr shut ↦ rw shut first
      ]

  -- One of some stays covers a cycle, and is of a group.
  pub record IsCovered (stays : List Stay) (t g : ℕ) : Type 0 where
    pub stay : Stay
    pub has : Contains stays stay
    pub covers : IsInTables groups spans stay t
    pub group : stay.group ≡ g

  module _ (c u : ℕ) (p : Option Switch) (row : SwitchRow) (rows : List SwitchRow) (t g : ℕ)
      (begun : IfSome p (λ switch. bound switch ≤ t))
      (next : IsCovered (stays_from groups c (Some (switch_of u row)) row.to.0 rows) t g) where
    abbrev all : List SwitchRow
    all = row ∷ rows

    -- It is one of those that a row opens or later ones.
    behind-covered : Contains (stays_behind groups c u (row ∷ rows)) next.stay
        → IsCovered (stays_from groups c p u (row ∷ rows)) t g
    behind-covered has = record {
      stay = next.stay;
      has = stay_with-there groups c (has_at groups u c) p u all (stays_behind groups c u all)
          next.stay has;
      covers = next.covers;
      group = next.group;
    }

    -- It is opened with the row's use case: then the row opens it, or keeps it.
    opened-covered : IsTrue (has_at groups row.to.0 c)
        × (opened groups c (Some (switch_of u row)) row.to.0 rows ≡ next.stay)
        → IsCovered (stays_from groups c p u (row ∷ rows)) t g
    opened-covered here =
        let v = row.to.0 in
        let opening = Some (switch_of u row) in
        let behind = stays_behind groups c u all in
        elim (cases_Bool (is_kept groups u v c)) [
          | inl kept ↦
              let is = kept-is groups u v c kept in
              let closing : closing_in groups c u all ≡ closing_in groups c v rows =
              ap (λ (b : Bool). cond b (closing_in groups c v rows) opening) kept in
              let closed : closing_in groups c v rows ≡ next.stay.closing =
              ap (λ (x : Stay). x.closing) here.1 in
              let group : group_at groups v ≡ next.stay.group =
              ap (λ (x : Stay). x.group) here.1 in
              record {
                stay = opened groups c p u all;
                has = stay_with-here groups c (has_at groups u c) p u all behind is.left;
                covers = record {
                  opened_by = begun;
                  closed_by = subst (λ (o : Option Switch). IfSome o (λ switch. t < bound switch))
                      (sym (closing ∙ closed)) next.covers.closed_by;
                };
                group = is.group ∙ group ∙ next.group;
              }
          | inr shut ↦
              let opens_it = and_from (has_at groups v c) (not (is_kept groups u v c)) here.0
              (not_from_false (is_kept groups u v c) shut) in
              behind-covered (subst (λ (x : Stay). Contains behind x) here.1
              (stay_with-here groups c (opens groups u v c) opening v rows
              (stays_behind groups c v rows) opens_it))
        ]

    -- So a stay from the row's use case on is one from the use case before on.
    covered-on : IsCovered (stays_from groups c p u (row ∷ rows)) t g
    covered-on =
        let v = row.to.0 in
        let opening = Some (switch_of u row) in
        let later = stays_behind groups c v rows in
        elim (stay_with-cases groups c (has_at groups v c) opening v rows later next.stay next.has) [
          | inl here ↦ opened-covered here
          | inr there ↦ behind-covered (stay_with-there groups c (opens groups u v c) opening v rows
              later next.stay there)
        ]

  -- Where the use case in force has a connection, a stay of its group covers the cycle.
  in_force-covered : (rows : List SwitchRow) (u low c : ℕ) (p : Option Switch) (t : ℕ)
      → AreRising groups bound u low rows → IfSome p (λ switch. bound switch ≤ t)
      → IsTrue (has_at groups (use_from spans t u rows) c)
      → IsCovered (stays_from groups c p u rows) t (group_at groups (use_from spans t u rows))
  in_force-covered [] u low c p t rises begun has = record {
    stay = opened groups c p u [];
    has = stay_with-here groups c (has_at groups u c) p u [] [] has;
    covers = record { opened_by = begun; closed_by = tt };
    group = refl;
  }
  in_force-covered (row ∷ rows) u low c p t rises begun has =
      let v = row.to.0 in
      let all = row ∷ rows in
      let fin = bound (switch_of u row) in
      let late : (o : Option Switch) → t < fin → IfSome o (λ switch. fin ≤ bound switch)
      → IfSome o (λ switch. t < bound switch) = elim [
        | None ↦ λ before later. tt
        | Some switch ↦ λ before later. omega (arith, before, later)
      ] in
      elim (cases_lt t fin) [
        | inl before ↦
            let stop = use-before t u row rows before in
            record {
              stay = opened groups c p u all;
              has = stay_with-here groups c (has_at groups u c) p u all
                  (stays_behind groups c u all)
                  (subst (λ (w : ℕ). IsTrue (has_at groups w c)) stop has);
              covers = record {
                opened_by = begun;
                closed_by = late (closing_in groups c u all) before
                    (closes-later c all u fin (omega arith, rises.1));
              };
              group = ap (group_at groups) (sym stop);
            }
        | inr past ↦
            let on = use-behind t u row rows past in
            subst (λ (w : ℕ). IsCovered (stays_from groups c p u all) t (group_at groups w)) (sym on)
            (covered-on c u p row rows t (group_at groups (use_from spans t v rows)) begun
            (in_force-covered rows v fin c (Some (switch_of u row)) t rises.1 past
            (subst (λ (w : ℕ). IsTrue (has_at groups w c)) on has)))
      ]

  -- So it is over a list of switches.
  pub stay-used : (rows : List SwitchRow) (c t : ℕ) → are_apart spans rows ≡ Ok tt → (s : Stay)
      → Contains (stays_of groups c rows) s → IsInTables groups spans s t
      → IsOfUse c (use_in_force spans t rows) s
  stay-used [] c t apart s has covers = Contains-nil has
  stay-used (first ∷ rows) c t apart s has covers =
      covers-in_force rows first.to.0 0 c None t
      (rising groups spans first.to.0 0 0 rows (omega arith) (in_time spans first.to.0 0 2 rows apart)) s has
      covers

  pub used-covered : (rows : List SwitchRow) (c t : ℕ) → are_apart spans rows ≡ Ok tt
      → is_first_at_zero rows ≡ Ok tt → IsTrue (has_at groups (use_in_force spans t rows) c)
      → IsCovered (stays_of groups c rows) t (group_at groups (use_in_force spans t rows))
  used-covered [] c t apart first has = absurd (cc first)
  used-covered (first ∷ rows) c t apart is_first has =
      in_force-covered rows first.to.0 0 c None t
      (rising groups spans first.to.0 0 0 rows (omega arith) (in_time spans first.to.0 0 2 rows apart)) tt has
