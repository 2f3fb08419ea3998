-- The stays of a connection come one after the other, whatever is read of a switch.
use Rattle.std.proofs.Common.{◌≡◌, ◌≤◌, ◌<◌, ◌∙◌, ℕ, Bool, cond, List, [], ◌∷◌, Contains, Option}
use Rattle.std.proofs.Common.{Some, None, slice_get, ap, subst, inl, inr, arith, not}
use Rattle.std.proofs.lemmas.Bool.{and_right, both_ways, cases_Bool, not_from_true}
use Rattle.aeth_base.proofs.Members.{Contains-nil}
use Rattle.aeth_group.specs.Members.{GroupsData, has_at, is_kept}
use Rattle.aeth_trace.specs.declared.switches.SwitchRow.{SwitchRow}
use Rattle.aeth_report.specs.Sessions.{Stay, Switch, closing_in, opens, stay_with, stays_behind}
use Rattle.aeth_report.specs.Sessions.{stays_of}
use Rattle.aeth_report.proofs.{Stays.opened, Stays.stay_with-cases, Stays.stay_with-place}
use Rattle.aeth_report.proofs.{Stays.switch_of, StayMeetings.AreRising, StaysAlone.at-Contains}

module _ (groups : GroupsData) (bound : Switch → ℕ) where
  -- What is read of the switch that opens a stay; 0 where none does.
  abbrev pub opened_at : Option Switch → ℕ
  opened_at None = 0
  opened_at (Some switch) = bound switch

  -- Stays behind a use case are opened at `low` or later.
  opens_from : (c : ℕ) (rows : List SwitchRow) (u low : ℕ) → AreRising groups bound u low rows
      → (s : Stay) → Contains (stays_behind groups c u rows) s → low ≤ opened_at s.opening
  opens_from c [] u low rising s has = Contains-nil has
  opens_from c (row ∷ rows) u low rising s has =
      let v = row.to.0 in
      let opening = Some (switch_of u row) in
      let first = rising.0 in
      let behind = stays_behind groups c v rows in
      elim (stay_with-cases groups c (opens groups u v c) opening v rows behind s has) [
        | inl here ↦
            let same : opened_at opening ≡ opened_at s.opening =
            ap (λ (x : Stay). opened_at x.opening) here.1 in
            omega arith
        | inr there ↦
            let later = opens_from c rows v (bound (switch_of u row)) rising.1 s there in
            omega arith
      ]

  -- A stay is closed before another one is opened.
  pub record IsBefore (s e : Stay) : Type 0 where
    pub switch : Switch
    pub closing : s.closing ≡ Some switch
    pub early : bound switch ≤ opened_at e.opening

  -- So is the one that is opened with a use case, before those behind it.
  opened-before : (c : ℕ) (rows : List SwitchRow) (opening : Option Switch) (u low : ℕ)
      → AreRising groups bound u low rows → (e : Stay) → Contains (stays_behind groups c u rows) e
      → IsBefore (opened groups c opening u rows) e
  opened-before c [] opening u low rising e has = Contains-nil has
  opened-before c (row ∷ rows) opening u low rising e has =
      let v = row.to.0 in
      let behind = stays_behind groups c v rows in
      let limit = bound (switch_of u row) in
      let next = Some (switch_of u row) in
      let keeps = is_kept groups u v c in
      elim (cases_Bool keeps) [
        | inl kept ↦
            let shut = and_right (has_at groups v c) (not keeps) (not_from_true keeps kept) in
            let same : closing_in groups c u (row ∷ rows) ≡ closing_in groups c v rows =
            ap (λ (b : Bool). cond b (closing_in groups c v rows) next) kept in
            elim (stay_with-cases groups c (opens groups u v c) next v rows behind e has) [
              | inl here ↦ absurd (both_ways (opens groups u v c) shut here.0)
              | inr there ↦
                  let is = opened-before c rows opening v limit rising.1 e there in
                  record { switch = is.switch; closing = same ∙ is.closing; early = is.early }
            ]
        | inr shut ↦ record {
          switch = switch_of u row;
          closing = ap (λ (b : Bool). cond b (closing_in groups c v rows) next) shut;
          early = opens_from c (row ∷ rows) u limit (omega arith, rising.1) e has;
        }
      ]

  -- Each of some stays is closed before the later ones are opened.
  abbrev pub AreInTurn : List Stay → Type 0
  AreInTurn stays = (i j : ℕ) (s e : Stay) → i < j → slice_get stays i ≡ Some s
      → slice_get stays j ≡ Some e → IsBefore s e

  -- So is each of those with another before them.
  turns_with : (c : ℕ) (test : Bool) (rows : List SwitchRow) (opening : Option Switch) (u low : ℕ)
      → AreRising groups bound u low rows → AreInTurn (stays_behind groups c u rows)
      → AreInTurn (stay_with groups c test opening u rows (stays_behind groups c u rows))
  turns_with c test rows opening u low rising turns i j s e less at_s at_e =
      let later = stays_behind groups c u rows in
      elim (stay_with-place groups c test opening u rows later j e at_e) [
        | inl first ↦ let none = first.0 in absurd (omega arith)
        | inr there ↦ elim (stay_with-place groups c test opening u rows later i s at_s) [
          | inl here ↦ subst (λ (z : Stay). IsBefore z e) here.1
              (opened-before c rows opening u low rising e (at-Contains later there.0 e there.1))
          | inr too ↦
              let one = too.2 in
              let two = there.2 in
              turns too.0 there.0 s e (omega arith) too.1 there.1
        ]
      ]

  -- And each of those that rows open.
  behind-turn : (c : ℕ) (rows : List SwitchRow) (u low : ℕ) → AreRising groups bound u low rows
      → AreInTurn (stays_behind groups c u rows)
  behind-turn c [] u low rising = λ i j s e less at_s at_e. absurd cc
  behind-turn c (row ∷ rows) u low rising =
      let limit = bound (switch_of u row) in
      turns_with c (opens groups u row.to.0 c) rows (Some (switch_of u row)) row.to.0 limit
      rising.1 (behind-turn c rows row.to.0 limit rising.1)

  -- So is each of a list of switches.
  pub stays-turn : (c : ℕ) (first : SwitchRow) (rows : List SwitchRow) (low : ℕ)
      → AreRising groups bound first.to.0 low rows → AreInTurn (stays_of groups c (first ∷ rows))
  stays-turn c first rows low rising =
      turns_with c (has_at groups first.to.0 c) rows None first.to.0 low rising
      (behind-turn c rows first.to.0 low rising)
