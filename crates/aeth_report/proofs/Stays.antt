-- The stays of a connection: which there are, and what holds of each.
use Rattle.std.proofs.Common.{◌≡◌, ◌<◌, ◌⊎◌, ℕ, zero, suc, ◌+◌, Bool, true, false, List, [], ◌∷◌}
use Rattle.std.proofs.Common.{Contains, Option, Some, None, length, slice_get, refl, subst, inl}
use Rattle.std.proofs.Common.{inr, arith, eqb-true, IfSome, IsTrue, not, ◌&&◌, ◌==◌}
use Rattle.std.proofs.lemmas.Bool.{cases_Bool, and_from, and_parts, both_ways, not_from_false}
use Rattle.std.proofs.lemmas.List.Elements.{All-head, All-tail}
use Rattle.std.proofs.lemmas.Option.{same_Some}
use Rattle.std.specs.List.{All}
use Rattle.aeth_base.proofs.Members.{Contains-cases, Contains-here, Contains-nil, Contains-there}
use Rattle.aeth_group.specs.Members.{GroupsData, group_at, has_at, is_kept}
use Rattle.aeth_trace.specs.declared.switches.SwitchRow.{SwitchRow}
use Rattle.aeth_report.specs.Sessions.{Stay, Switch, closes, closing_in, opens, stay_with}
use Rattle.aeth_report.specs.Sessions.{stays_behind, stays_of}

-- The switch of a row behind a use case.
abbrev pub switch_of : ℕ → SwitchRow → Switch
switch_of u row = record { leaves = u; row = row }

-- One where a test holds.
abbrev pub one_if : Bool → ℕ
one_if true = 1
one_if false = 0

module _ (groups : GroupsData) where
  -- The stay with use case u.
  abbrev pub opened : ℕ → Option Switch → ℕ → List SwitchRow → Stay
  opened c opening u rows =
      record { group = group_at groups u; opening = opening; closing = closing_in groups c u rows }

  -- A stay with others behind it is the one that is opened, or one of these.
  pub stay_with-cases : (c : ℕ) (test : Bool) (opening : Option Switch) (u : ℕ)
      (rows : List SwitchRow) (later : List Stay) (s : Stay)
      → Contains (stay_with groups c test opening u rows later) s
      → (IsTrue test × (opened c opening u rows ≡ s)) ⊎ Contains later s
  stay_with-cases c true opening u rows later s has =
      elim (Contains-cases (opened c opening u rows) later s has) [
        | inl same ↦ inl (refl, same)
        | inr there ↦ inr there
      ]
  stay_with-cases c false opening u rows later s has = inr has

  -- What is behind is there also with the one that is opened.
  pub stay_with-there : (c : ℕ) (test : Bool) (opening : Option Switch) (u : ℕ)
      (rows : List SwitchRow) (later : List Stay) (s : Stay) → Contains later s
      → Contains (stay_with groups c test opening u rows later) s
  stay_with-there c true opening u rows later s has =
      Contains-there (opened c opening u rows) later s has
  stay_with-there c false opening u rows later s has = has

  -- The one that is opened is there.
  pub stay_with-here : (c : ℕ) (test : Bool) (opening : Option Switch) (u : ℕ)
      (rows : List SwitchRow) (later : List Stay) → IsTrue test
      → Contains (stay_with groups c test opening u rows later) (opened c opening u rows)
  stay_with-here c true opening u rows later is = Contains-here (opened c opening u rows) later
  stay_with-here c false opening u rows later is = absurd (both_ways false refl is)

  -- A stay at a place is the one that is opened, at the first, or one behind.
  pub stay_with-place : (c : ℕ) (test : Bool) (opening : Option Switch) (u : ℕ)
      (rows : List SwitchRow) (later : List Stay) (i : ℕ) (s : Stay)
      → slice_get (stay_with groups c test opening u rows later) i ≡ Some s
      → ((i ≡ 0) × (opened c opening u rows ≡ s))
      ⊎ ((j : ℕ) × (slice_get later j ≡ Some s) × (j + one_if test ≡ i))
  stay_with-place c true opening u rows later zero s at =
      inl (refl, same_Some (opened c opening u rows) s at)
  stay_with-place c true opening u rows later (suc i) s at = inr (i, at, omega arith)
  stay_with-place c false opening u rows later i s at = inr (i, at, omega arith)

  -- A connection that a switch keeps is in both use cases, which are of one group.
  pub record IsKept (u v c : ℕ) : Type 0 where
    pub left : IsTrue (has_at groups u c)
    pub entered : IsTrue (has_at groups v c)
    pub group : group_at groups u ≡ group_at groups v

  -- So the test says.
  pub kept-is : (u v c : ℕ) → IsTrue (is_kept groups u v c) → IsKept u v c
  kept-is u v c kept =
      let one = group_at groups u == group_at groups v in
      let outer = and_parts (has_at groups u c && has_at groups v c) one kept in
      let inner = and_parts (has_at groups u c) (has_at groups v c) outer.0 in
      record {
        left = inner.0;
        entered = inner.1;
        group = eqb-true (group_at groups u) (group_at groups v) outer.1;
      }

  -- A connection that a switch opens is in the use case that is entered.
  pub opens-has : (u v c : ℕ) → IsTrue (opens groups u v c) → IsTrue (has_at groups v c)
  opens-has u v c is = (and_parts (has_at groups v c) (not (is_kept groups u v c)) is).0

  -- What closes a stay of a group: a switch to a known use case that leaves one of that group, and
  -- closes the connection.
  pub record IsClosedBy (c group : ℕ) (switch : Switch) : Type 0 where
    pub known : switch.row.to.0 < length groups.uses
    pub is_closed : IsTrue (closes groups switch.leaves switch.row.to.0 c)
    pub in_group : group_at groups switch.leaves ≡ group

  -- What holds of a stay of a connection: a use case of its group has the connection, and what
  -- closes it is such a switch.
  pub record IsStayOf (c : ℕ) (s : Stay) : Type 0 where
    pub use_case : ℕ
    pub has : IsTrue (has_at groups use_case c)
    pub in_group : group_at groups use_case ≡ s.group
    pub closed : IfSome s.closing (IsClosedBy c s.group)

  -- A row that enters a known use case, and such rows.
  abbrev pub IsKnown : SwitchRow → Type 0
  IsKnown row = row.to.0 < length groups.uses

  abbrev pub AreKnown : List SwitchRow → Type 0
  AreKnown rows = All IsKnown rows

  -- The first switch that doesn't keep a connection closes it.
  closing_in-closes : (c : ℕ) (rows : List SwitchRow) (u : ℕ) → AreKnown rows
      → IsTrue (has_at groups u c)
      → IfSome (closing_in groups c u rows) (IsClosedBy c (group_at groups u))
  closing_in-closes c [] u known has = tt
  closing_in-closes c (row ∷ rows) u known has =
      let v = row.to.0 in
      let first : v < length groups.uses = All-head IsKnown row rows known in
      let later : AreKnown rows = All-tail IsKnown row rows known in
      elim (cases_Bool (is_kept groups u v c)) [
        | inl kept ↦
            let is = kept-is u v c kept in
            rw (kept, is.group) (closing_in-closes c rows v later is.entered)
        | inr shut ↦
            rw shut (record {
              known = first;
              is_closed = and_from (has_at groups u c) (not (is_kept groups u v c)) has
                  (not_from_false (is_kept groups u v c) shut);
              in_group = refl;
            })
      ]

  -- The stay that is opened with use case u is one.
  opened-is : (c : ℕ) (opening : Option Switch) (u : ℕ) (rows : List SwitchRow) (s : Stay)
      → AreKnown rows → IsTrue (has_at groups u c) → opened c opening u rows ≡ s → IsStayOf c s
  opened-is c opening u rows s known has same =
      subst (λ (x : Stay). IsStayOf c x) same (record {
        use_case = u;
        has = has;
        in_group = refl;
        closed = closing_in-closes c rows u known has;
      })

  -- Each that rows open is one.
  behind-is : (c : ℕ) (rows : List SwitchRow) (u : ℕ) (s : Stay) → AreKnown rows
      → Contains (stays_behind groups c u rows) s → IsStayOf c s
  behind-is c [] u s known has = Contains-nil has
  behind-is c (row ∷ rows) u s known has =
      let v = row.to.0 in
      let later : AreKnown rows = All-tail IsKnown row rows known in
      let behind = stays_behind groups c v rows in
      let opening = Some (switch_of u row) in
      elim (stay_with-cases c (opens groups u v c) opening v rows behind s has) [
        | inl here ↦ opened-is c opening v rows s later (opens-has u v c here.0) here.1
        | inr there ↦ behind-is c rows v s later there
      ]

  -- So each of a list of switches is one.
  pub stays_of-is : (c : ℕ) (rows : List SwitchRow) (s : Stay) → AreKnown rows
      → Contains (stays_of groups c rows) s → IsStayOf c s
  stays_of-is c [] s known has = Contains-nil has
  stays_of-is c (first ∷ rows) s known has =
      let u = first.to.0 in
      let later : AreKnown rows = All-tail IsKnown first rows known in
      let behind = stays_behind groups c u rows in
      elim (stay_with-cases c (has_at groups u c) None u rows behind s has) [
        | inl here ↦ opened-is c None u rows s later here.0 here.1
        | inr there ↦ behind-is c rows u s later there
      ]
