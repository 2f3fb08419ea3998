-- Of the stays of one connection one alone covers a cycle.
use Rattle.std.proofs.Common.{◌≡◌, ◌<◌, ◌∙◌, ℕ, Bool, cond, List, [], ◌∷◌, Contains, Option, Some}
use Rattle.std.proofs.Common.{slice_get, sym, ap, subst, inl, inr, arith, IfSome, not}
use Rattle.std.proofs.lemmas.Bool.{cases_Bool, and_right, both_ways, not_from_true}
use Rattle.aeth_base.proofs.Members.{Contains-nil}
use Rattle.aeth_group.specs.Members.{GroupsData, has_at, is_kept}
use Rattle.aeth_trace.specs.declared.switches.SwitchRow.{SwitchRow}
use Rattle.aeth_report.specs.Sessions.{Stay, Switch, closing_in, opens, stay_with, stays_behind}
use Rattle.aeth_report.specs.Sessions.{stays_from}
use Rattle.aeth_report.proofs.Stays.{opened, stay_with-cases, stay_with-place, switch_of}
use Rattle.aeth_report.proofs.StayMeetings.{AreRising, Covers, closed_before, row_opens}
pub use Rattle.aeth_base.proofs.Members.{Contains-slice_get as at-Contains}

module _ (groups : GroupsData) (bound : Switch → ℕ) where
  -- A stay ends before those behind it begin.
  before_later : (c : ℕ) (rows : List SwitchRow) (opening : Option Switch) (u low t : ℕ)
      → AreRising groups bound u low rows → (e : Stay)
      → Contains (stays_behind groups c u rows) e
      → Covers groups bound (opened groups c opening u rows) t → Covers groups bound e t → ⊥
  before_later c [] opening u low t rising e has covers later = Contains-nil has
  before_later c (row ∷ rows) opening u low t rising e has covers later =
      let v = row.to.0 in
      let behind = stays_behind groups c v rows in
      let next = Some (switch_of u row) in
      let keeps = is_kept groups u v c in
      elim (cases_Bool keeps) [
        | inl kept ↦
            let shut = and_right (has_at groups v c) (not keeps) (not_from_true keeps kept) in
            let closing : closing_in groups c u (row ∷ rows) ≡ closing_in groups c v rows =
            ap (λ (b : Bool). cond b (closing_in groups c v rows) next) kept in
            elim (stay_with-cases groups c (opens groups u v c) next v rows behind e has) [
              | inl here ↦ both_ways (opens groups u v c) shut here.0
              | inr there ↦
                  before_later c rows opening v (bound (switch_of u row)) t rising.1 e there
                  (record {
                    opened_by = covers.opened_by;
                    closed_by = subst
                        (λ (o : Option Switch). IfSome o (λ switch. t < bound switch)) closing
                        covers.closed_by;
                  }) later
            ]
        | inr shut ↦
            let ends = closed_before groups bound c u t opening row rows shut covers in
            let goes = row_opens groups bound c u low t row rows rising e has later in
            absurd (omega arith)
      ]

  -- Of some stays one alone covers the cycle.
  abbrev IsAlone : List Stay → ℕ → Type 0
  IsAlone stays t = (i j : ℕ) (s e : Stay) → slice_get stays i ≡ Some s
      → slice_get stays j ≡ Some e → Covers groups bound s t → Covers groups bound e t → i ≡ j

  -- One alone of those with another before them.
  alone_with : (c : ℕ) (test : Bool) (rows : List SwitchRow) (opening : Option Switch)
      (u low t : ℕ) → AreRising groups bound u low rows → IsAlone (stays_behind groups c u rows) t
      → IsAlone (stay_with groups c test opening u rows (stays_behind groups c u rows)) t
  alone_with c test rows opening u low t rising alone i j s e at_s at_e covers_s covers_e =
      let later = stays_behind groups c u rows in
      let late : (k : ℕ) (a b : Stay) → opened groups c opening u rows ≡ a
      → slice_get later k ≡ Some b → Covers groups bound a t → Covers groups bound b t → i ≡ j =
      λ k a b is at covers_a covers_b. absurd (
      before_later c rows opening u low t rising b (at-Contains later k b at)
      (subst (λ (z : Stay). Covers groups bound z t) (sym is) covers_a) covers_b) in
      elim (stay_with-place groups c test opening u rows later i s at_s) [
        | inl here ↦ elim (stay_with-place groups c test opening u rows later j e at_e) [
          | inl too ↦ here.0 ∙ sym too.0
          | inr there ↦ late there.0 s e here.1 there.1 covers_s covers_e
        ]
        | inr there ↦ elim (stay_with-place groups c test opening u rows later j e at_e) [
          | inl here ↦ late there.0 e s here.1 there.1 covers_e covers_s
          | inr too ↦
              let same = alone there.0 too.0 s e there.1 too.1 covers_s covers_e in
              let one = there.2 in
              let two = too.2 in
              omega arith
        ]
      ]

  -- One alone of those that rows open.
  behind_alone : (c : ℕ) (rows : List SwitchRow) (u low t : ℕ)
      → AreRising groups bound u low rows → IsAlone (stays_behind groups c u rows) t
  behind_alone c [] u low t rising = λ i j s e at_s at_e covers_s covers_e. absurd cc
  behind_alone c (row ∷ rows) u low t rising =
      let limit = bound (switch_of u row) in
      alone_with c (opens groups u row.to.0 c) rows (Some (switch_of u row)) row.to.0 limit t
      rising.1 (behind_alone c rows row.to.0 limit t rising.1)

  -- So of all stays from a use case on one alone covers a cycle.
  pub stays_alone : (c : ℕ) (rows : List SwitchRow) (opening : Option Switch) (u low t : ℕ)
      → AreRising groups bound u low rows → (i j : ℕ) (s e : Stay)
      → slice_get (stays_from groups c opening u rows) i ≡ Some s
      → slice_get (stays_from groups c opening u rows) j ≡ Some e
      → Covers groups bound s t → Covers groups bound e t → i ≡ j
  stays_alone c rows opening u low t rising =
      alone_with c (has_at groups u c) rows opening u low t rising
      (behind_alone c rows u low t rising)
