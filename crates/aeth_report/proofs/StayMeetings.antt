-- Stays that cover one cycle have a use case in common, whatever is read of a switch: the finish of
-- what it closes, or the first write of what it opens.
use Rattle.std.proofs.Common.{◌≡◌, ◌≤◌, ◌<◌, ◌∙◌, ℕ, Bool, false, cond, List, [], ◌∷◌, Contains}
use Rattle.std.proofs.Common.{Option, Some, sym, ap, subst, inl, inr, arith, IfSome, IsTrue}
use Rattle.std.proofs.lemmas.Bool.{cases_Bool}
use Rattle.std.specs.Prelude.{⊤}
use Rattle.aeth_base.proofs.Members.{Contains-nil}
use Rattle.aeth_group.specs.Members.{GroupsData, group_at, has_at, is_kept}
use Rattle.aeth_trace.specs.declared.switches.SwitchRow.{SwitchRow}
use Rattle.aeth_report.specs.Sessions.{AreTogether, Stay, Switch, closing_in, opens, stays_behind}
use Rattle.aeth_report.specs.Sessions.{stays_from}
use Rattle.aeth_report.proofs.Stays.{kept-is, opened, opens-has, stay_with-cases, stay_with-here}
use Rattle.aeth_report.proofs.Stays.{stay_with-there, switch_of}

module _ (groups : GroupsData) where
  -- A stay that a row opens or a later one is one of those from the row's use case on.
  pub from_row : (c u : ℕ) (row : SwitchRow) (rows : List SwitchRow) (s : Stay)
      → Contains (stays_behind groups c u (row ∷ rows)) s
      → Contains (stays_from groups c (Some (switch_of u row)) row.to.0 rows) s
  from_row c u row rows s has =
      let v = row.to.0 in
      let opening = Some (switch_of u row) in
      let later = stays_behind groups c v rows in
      let test = has_at groups v c in
      elim (stay_with-cases groups c (opens groups u v c) opening v rows later s has) [
        | inl here ↦ subst (λ (x : Stay). Contains (stays_from groups c opening v rows) x) here.1
            (stay_with-here groups c test opening v rows later (opens-has groups u v c here.0))
        | inr there ↦ stay_with-there groups c test opening v rows later s there
      ]

  -- A stay that a row keeps is one of those from its use case on.
  pub kept_on : (c u : ℕ) (opening : Option Switch) (row : SwitchRow) (rows : List SwitchRow)
      → IsTrue (is_kept groups u row.to.0 c)
      → Contains (stays_from groups c opening row.to.0 rows) (opened groups c opening u (row ∷ rows))
  kept_on c u opening row rows kept =
      let v = row.to.0 in
      let is = kept-is groups u v c kept in
      rw (kept, is.group)
      (stay_with-here groups c (has_at groups v c) opening v rows (stays_behind groups c v rows)
      is.entered)

  -- What two stays with a common cycle are.
  pub record Meet (c d : ℕ) (s e : Stay) : Type 0 where
    pub group : s.group ≡ e.group
    pub together : AreTogether groups s.group c d

  -- The other way round.
  turned : (c d : ℕ) (s e : Stay) → Meet c d s e → Meet d c e s
  turned c d s e meet = record {
    group = sym meet.group;
    together = record {
      use_case = meet.together.use_case;
      in_group = meet.together.in_group ∙ meet.group;
      first = meet.together.second;
      second = meet.together.first;
    };
  }

  -- Two that are opened with one use case.
  opened_meet : (c d : ℕ) (p q : Option Switch) (u : ℕ) (rows : List SwitchRow) (s e : Stay)
      → IsTrue (has_at groups u c) × (opened groups c p u rows ≡ s)
      → IsTrue (has_at groups u d) × (opened groups d q u rows ≡ e) → Meet c d s e
  opened_meet c d p q u rows s e is_s is_e =
      let group_s : group_at groups u ≡ s.group = ap (λ (x : Stay). x.group) is_s.1 in
      let group_e : group_at groups u ≡ e.group = ap (λ (x : Stay). x.group) is_e.1 in
      record {
        group = sym group_s ∙ group_e;
        together =
            record { use_case = u; in_group = group_s; first = is_s.0; second = is_e.0 };
      }

  module _ (bound : Switch → ℕ) where
    -- The bounds of rows never fall, from `low` on.
    abbrev pub AreRising : ℕ → ℕ → List SwitchRow → Type 0
    AreRising u low [] = ⊤
    AreRising u low (row ∷ rows) =
        (low ≤ bound (switch_of u row)) × AreRising row.to.0 (bound (switch_of u row)) rows

    -- A stay covers a cycle: its opening is at or before it, and its closing behind it.
    pub record Covers (s : Stay) (t : ℕ) : Type 0 where
      pub opened_by : IfSome s.opening (λ switch. bound switch ≤ t)
      pub closed_by : IfSome s.closing (λ switch. t < bound switch)

    -- Stays behind a use case are opened at `low` or later.
    behind_opens : (c u low t : ℕ) (rows : List SwitchRow) → AreRising u low rows → (s : Stay)
        → Contains (stays_behind groups c u rows) s → Covers s t → low ≤ t
    behind_opens c u low t [] rising s has covers = Contains-nil has
    behind_opens c u low t (row ∷ rows) rising s has covers =
        let v = row.to.0 in
        let opening = Some (switch_of u row) in
        let limit = bound (switch_of u row) in
        let first = rising.0 in
        let later = stays_behind groups c v rows in
        elim (stay_with-cases groups c (opens groups u v c) opening v rows later s has) [
          | inl here ↦
              let same : opening ≡ s.opening = ap (λ (x : Stay). x.opening) here.1 in
              let opens_at : limit ≤ t =
              subst (λ (o : Option Switch). IfSome o (λ switch. bound switch ≤ t)) (sym same)
              covers.opened_by in
              omega arith
          | inr there ↦
              let after = behind_opens c v limit t rows rising.1 s there covers in omega arith
        ]

    -- And those that a row opens or later ones at the row's bound or later.
    pub row_opens : (c u low t : ℕ) (row : SwitchRow) (rows : List SwitchRow)
        → AreRising u low (row ∷ rows) → (s : Stay)
        → Contains (stays_behind groups c u (row ∷ rows)) s → Covers s t
        → bound (switch_of u row) ≤ t
    row_opens c u low t row rows rising s has covers =
        behind_opens c u (bound (switch_of u row)) t (row ∷ rows) (omega arith, rising.1) s has
        covers

    -- One that a row closes ends before the row's bound.
    pub closed_before : (c u t : ℕ) (opening : Option Switch) (row : SwitchRow)
        (rows : List SwitchRow) → is_kept groups u row.to.0 c ≡ false
        → Covers (opened groups c opening u (row ∷ rows)) t → t < bound (switch_of u row)
    closed_before c u t opening row rows shut covers =
        subst (λ (b : Bool). IfSome
        (cond b (closing_in groups c row.to.0 rows) (Some (switch_of u row)))
        (λ switch. t < bound switch)) shut covers.closed_by

    -- Of two stays from a use case on that cover one cycle, both connections are in one of the use
    -- cases on the way.
    pub stays_meet : (rows : List SwitchRow) (u low c d : ℕ) (p q : Option Switch) (t : ℕ)
        → AreRising u low rows → (s e : Stay) → Contains (stays_from groups c p u rows) s
        → Contains (stays_from groups d q u rows) e → Covers s t → Covers e t → Meet c d s e
    stays_meet [] u low c d p q t rising s e has_s has_e covers_s covers_e =
        elim (stay_with-cases groups c (has_at groups u c) p u [] [] s has_s) [
          | inr there ↦ Contains-nil there
          | inl here_s ↦ elim (stay_with-cases groups d (has_at groups u d) q u [] [] e has_e) [
            | inr there ↦ Contains-nil there
            | inl here_e ↦ opened_meet c d p q u [] s e here_s here_e
          ]
        ]
    stays_meet (row ∷ rows) u low c d p q t rising s e has_s has_e covers_s covers_e =
        let v = row.to.0 in
        let opening = Some (switch_of u row) in
        let limit = bound (switch_of u row) in
        let behind = λ (x : ℕ). stays_behind groups x u (row ∷ rows) in
        let one : (x y : ℕ) (from : Option Switch) (a b : Stay)
        → opened groups x from u (row ∷ rows) ≡ a → Contains (behind y) b
        → Covers a t → Covers b t → Meet x y a b =
        λ x y from a b is_a has_b covers_a covers_b. elim (cases_Bool (is_kept groups u v x)) [
          | inl kept ↦ stays_meet rows v limit x y from opening t rising.1 a b
              (subst (λ (z : Stay). Contains (stays_from groups x from v rows) z) is_a
              (kept_on x u from row rows kept))
              (from_row y u row rows b has_b) covers_a covers_b
          | inr shut ↦ absurd (
              let own = subst (λ (z : Stay). Covers z t) (sym is_a) covers_a in
              let ends = closed_before x u t from row rows shut own in
              let goes = row_opens y u low t row rows rising b has_b covers_b in
              omega arith)
        ] in
        let all = row ∷ rows in
        elim (stay_with-cases groups c (has_at groups u c) p u all (behind c) s has_s) [
          | inl here_s ↦
              elim (stay_with-cases groups d (has_at groups u d) q u all (behind d) e has_e) [
                | inl here_e ↦ opened_meet c d p q u all s e here_s here_e
                | inr there_e ↦ one c d p s e here_s.1 there_e covers_s covers_e
              ]
          | inr there_s ↦
              elim (stay_with-cases groups d (has_at groups u d) q u all (behind d) e has_e) [
                | inl here_e ↦ turned d c e s (one d c q e s here_e.1 there_s covers_e covers_s)
                | inr there_e ↦ stays_meet rows v limit c d opening opening t rising.1 s e
                    (from_row c u row rows s there_s) (from_row d u row rows e there_e)
                    covers_s covers_e
              ]
        ]
