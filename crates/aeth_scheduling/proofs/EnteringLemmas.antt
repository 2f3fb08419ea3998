-- The use cases that rows enter, and connections that are kept between all of them.
use Rattle.std.proofs.Common.{◌≡◌, ◌≢◌, ◌∙◌, ◌<◌, ◌++◌, ◌==◌, ℕ, List, [], ◌∷◌, None, All, Contains}
use Rattle.std.proofs.Common.{◌≤◌, ◌-◌, ◌+◌, arith, ap, drop, get_or, length, refl, subst, sym}
use Rattle.std.proofs.Common.{take, IsTrue, eq-eqb, eqb-true, length-drop, take_all}
use Rattle.std.proofs.lemmas.Bool.{or_left, or_right}
use Rattle.std.proofs.lemmas.List.{drop_more, get_or_default, Elements.All-drop, Elements.All-head}
use Rattle.std.proofs.lemmas.List.{Elements.All-push, Elements.All-tail, Elements.All-weaker}
use Rattle.std.proofs.lemmas.List.{Elements.Contains-append_left, Elements.Contains-append_right}
use Rattle.std.proofs.lemmas.List.{Folds.list_any-append, Quantifiers.all_pairs_push}
use Rattle.aeth_base.specs.{Limits.max_cycles, declared.ids.UseId.UseId}
use Rattle.aeth_base.proofs.Members.{Contains-here}
use Rattle.aeth_group.{specs.Members.GroupsData, proofs.ListLemmas.passes_from_any}
use Rattle.aeth_trace.specs.declared.switches.SwitchRow.{SwitchRow}
use Rattle.aeth_report.specs.Sessions.{closing_in}
use Rattle.aeth_tables.proofs.ListLaws.{all_has}
use Rattle.aeth_scheduling.specs.{Entered.AreUsesOf, Entered.is_entered, Made.AreRows}
use Rattle.aeth_scheduling.specs.{Staying.AreEntered, Staying.IsKeptThroughout}

-- An item of a list and those behind it are the list from there on.
pub list-from : {X : Type 0} (xs : List X) (place : ℕ) (default : X) → place < length xs
    → get_or xs place default ∷ take (length xs - (place + 1)) (drop (place + 1) xs) ≡ drop place xs
list-from xs place default within =
    let rest = take_all (length xs - (place + 1)) (drop (place + 1) xs)
    (omega (arith, length-drop (place + 1) xs)) in
    ap (λ ys. get_or xs place default ∷ ys) rest ∙ sym (drop_more xs place default within)

-- ---- one row more

-- What one of some rows enters is still entered, and so is what the last one enters.
entered-before : (done : List SwitchRow) (row : SwitchRow) (u : UseId)
    → IsTrue (is_entered done u.0) → IsTrue (is_entered (done ++ row ∷ []) u.0)
entered-before done row u entered =
    list_any-append (λ (one : SwitchRow). one.to.0 == u.0) done (row ∷ [])
    ∙ or_left (is_entered done u.0) (is_entered (row ∷ []) u.0) entered

entered-last : (done : List SwitchRow) (row : SwitchRow)
    → IsTrue (is_entered (done ++ row ∷ []) row.to.0)
entered-last done row =
    list_any-append (λ (one : SwitchRow). one.to.0 == row.to.0) done (row ∷ [])
    ∙ or_right (is_entered done row.to.0) (is_entered (row ∷ []) row.to.0)
    (or_left (row.to.0 == row.to.0) (is_entered [] row.to.0) (eq-eqb row.to.0 row.to.0 refl))

module _ (done : List SwitchRow) (row : SwitchRow) (entered : List UseId)
    (uses : AreUsesOf done entered) where
  still-entered : All (λ u. IsTrue (is_entered (done ++ row ∷ []) u.0)) entered
  still-entered =
      All-weaker (λ (u : UseId). IsTrue (is_entered done u.0))
      (λ (u : UseId). IsTrue (is_entered (done ++ row ∷ []) u.0)) (entered-before done row) entered
      uses.only

  -- Its use case is there.
  pub uses-same : Contains entered row.to → AreUsesOf (done ++ row ∷ []) entered
  uses-same has = record {
    each = All-push (λ (one : SwitchRow). Contains entered one.to) done row uses.each has;
    only = still-entered;
    once = uses.once;
  }

  -- It is new.
  pub uses-more : (Contains entered row.to → ⊥)
      → AreUsesOf (done ++ row ∷ []) (entered ++ row.to ∷ [])
  uses-more new =
      let last : List UseId = row.to ∷ [] in
      let IsThere = λ (one : SwitchRow). Contains (entered ++ last) one.to in
      record {
        each = All-push IsThere done row
            (All-weaker (λ (one : SwitchRow). Contains entered one.to) IsThere
            (λ one has. Contains-append_left entered last one.to has) done uses.each)
            (Contains-append_right entered last row.to (Contains-here row.to []));
        only = All-push (λ (u : UseId). IsTrue (is_entered (done ++ row ∷ []) u.0)) entered row.to
            still-entered (entered-last done row);
        once = all_pairs_push (λ (u v : UseId). u ≢ v) entered row.to uses.once
            (λ k d within same. new (k, within, get_or_default entered k row.to d within ∙ same));
      }

-- ---- rows that enter known use cases

-- The use cases that rows enter are known with these.
entered-known : (uses : ℕ) (rows : List SwitchRow) (entered : List UseId) → AreRows uses rows
    → AreUsesOf rows entered → AreEntered uses entered rows
entered-known uses rows entered are of = record {
  rows_are = are;
  known = λ k d within.
      let u = get_or entered k d in
      let one = passes_from_any (λ (row : SwitchRow). row.to.0 == u.0) rows (of.only k d within) in
      let same : one.item.to.0 ≡ u.0 = eqb-true one.item.to.0 u.0 one.passes in
      let known = all_has (λ (row : SwitchRow). row.to.0 < uses) rows one.item are.known one.is_in in
      subst (λ (n : ℕ). n < uses) same known;
  each = of.each;
}

-- So they are where these are a row and those that follow it.
pub entered-all : (uses : ℕ) (rows : List SwitchRow) (entered : List UseId) (default : SwitchRow)
    → 1 ≤ length rows → AreRows uses rows → AreUsesOf rows entered
    → AreEntered uses entered (get_or rows 0 default ∷ take (length rows - 1) (drop 1 rows))
entered-all uses rows entered default some are of =
    rw (list-from rows 0 default some) (entered-known uses rows entered are of)

-- So they are of rows from a place on.
pub rows-from : (uses : ℕ) (rows : List SwitchRow) (place : ℕ) → AreRows uses rows
    → AreRows uses (drop place rows)
rows-from uses rows place are = record {
  known = All-drop (λ (one : SwitchRow). one.to.0 < uses) place rows are.known;
  cycles = All-drop (λ (one : SwitchRow). one.cycle ≤ max_cycles) place rows are.cycles;
  drains = All-drop (λ (one : SwitchRow). one.drain ≤ max_cycles) place rows are.drains;
}

pub entered-from : (uses : ℕ) (entered : List UseId) (rows : List SwitchRow) (place : ℕ)
    → AreEntered uses entered rows → AreEntered uses entered (drop place rows)
entered-from uses entered rows place are = record {
  rows_are = rows-from uses rows place are.rows_are;
  known = are.known;
  each = All-drop (λ (one : SwitchRow). Contains entered one.to) place rows are.each;
}

-- ---- connections that are kept throughout

-- No row that enters one of some use cases closes a connection that is kept between any two of these.
pub closing_in-none : (groups : GroupsData) (c : ℕ) (entered : List UseId) (u : UseId)
    (rows : List SwitchRow) → IsKeptThroughout groups entered c → Contains entered u
    → All (λ row. Contains entered row.to) rows → closing_in groups c u.0 rows ≡ None
closing_in-none groups c entered u [] kept has each = refl
closing_in-none groups c entered u (row ∷ rows) kept has each =
    let IsThere = λ (one : SwitchRow). Contains entered one.to in
    let to = All-head IsThere row rows each in
    rw (kept u row.to has to)
    (closing_in-none groups c entered row.to rows kept to (All-tail IsThere row rows each))
