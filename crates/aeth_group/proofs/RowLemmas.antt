-- Laws of the use cases of a group.
use Rattle.std.proofs.Common.{◌≡◌, ◌∙◌, ◌<◌, ◌≤◌, ◌+◌, ◌++◌, ◌&&◌, ◌||◌, ℕ, Bool, true, false, cond}
use Rattle.std.proofs.Common.{eqb, List, [], ◌∷◌, Some, suc, length, slice_get, get_or, filter}
use Rattle.std.proofs.Common.{drop, refl, sym, ap, inl, inr, arith, ne_eqb, append-nil}
use Rattle.std.proofs.lemmas.Bool.{and_from, and_parts, cases_lt, false≢true}
use Rattle.std.proofs.lemmas.List.{drop_all, drop_more, get_or_default, Elements.filter-append}
use Rattle.std.proofs.lemmas.Map.Views.{any-filter_same}
use Rattle.std.proofs.lemmas.Option.{same_Some, slice_get-get_or, slice_get_past}
use Rattle.std.specs.List.{list_any, range_with_len}
use Rattle.aeth_base.specs.declared.ids.Unit.{Unit as GroupUnit}
use Rattle.aeth_base.proofs.{Filters.filter-all_fail, Members.filter-Contains}
use Rattle.aeth_base.proofs.{Ranges.range-Contains, Ranges.range_with_len-more}
use Rattle.aeth_app.specs.App.{is_marked}
use Rattle.aeth_group.specs.Members.{GroupsData, IsGroups, UseGroupData, group_at, has_at, has_unit}
use Rattle.aeth_group.specs.Members.{is_member}
use Rattle.aeth_group.specs.Rows.{uses_of}
use Rattle.aeth_group.proofs.ListLemmas.{any_from_passes, passes_from_any, same_tests}
use Rattle.aeth_group.proofs.Ranges.{any_from_passer, passer_from_any}

-- ---- a walk over numbers

-- Whether some number passes is decided by those from a place on.
module _ (test : ℕ → Bool) (xs : List ℕ) (i : ℕ) (total : Bool)
    (so_far : list_any test (drop i xs) ≡ total) where
  at_place : i < length xs
      → (test (get_or xs i 0) || list_any test (drop (i + 1) xs)) ≡ total
  at_place within = sym (ap (list_any test) (drop_more xs i 0 within)) ∙ so_far

  -- The one there passes.
  pub walk_here : i < length xs → test (get_or xs i 0) ≡ true → true ≡ total
  walk_here within passes =
      ap (λ b. b || list_any test (drop (i + 1) xs)) (sym passes) ∙ at_place within

  -- It doesn't.
  pub walk_on : i < length xs → test (get_or xs i 0) ≡ false
      → list_any test (drop (i + 1) xs) ≡ total
  walk_on within fails =
      ap (λ b. b || list_any test (drop (i + 1) xs)) (sym fails) ∙ at_place within

  -- None is left.
  pub walk_end : length xs ≤ i → false ≡ total
  walk_end past = sym (ap (list_any test) (drop_all i xs past)) ∙ so_far

-- ---- one more number

-- One more number of a range passes a test, or fails it.
range-more : (test : ℕ → Bool) (u : ℕ)
    → filter test (range_with_len 0 (u + 1))
    ≡ filter test (range_with_len 0 u) ++ cond (test u) (u ∷ []) []
range-more test u =
    let next : u + 1 ≡ suc u = omega arith in
    ap (λ n. filter test (range_with_len 0 n)) next
    ∙ ap (filter test) (range_with_len-more 0 u u (omega arith))
    ∙ filter-append test (range_with_len 0 u) (u ∷ [])

pub range-passes : (test : ℕ → Bool) (u : ℕ) → test u ≡ true
    → filter test (range_with_len 0 (u + 1)) ≡ filter test (range_with_len 0 u) ++ u ∷ []
range-passes test u passes =
    range-more test u ∙ ap (λ b. filter test (range_with_len 0 u) ++ cond b (u ∷ []) []) passes

pub range-fails : (test : ℕ → Bool) (u : ℕ) → test u ≡ false
    → filter test (range_with_len 0 (u + 1)) ≡ filter test (range_with_len 0 u)
range-fails test u fails =
    range-more test u ∙ ap (λ b. filter test (range_with_len 0 u) ++ cond b (u ∷ []) []) fails
    ∙ append-nil (filter test (range_with_len 0 u))

-- ---- where there is no group

-- Without a group there is no use case of it.
pub uses_of-beyond : (groups : GroupsData) (g : ℕ) → IsGroups groups → groups.count ≤ g
    → [] ≡ uses_of groups g
uses_of-beyond groups g is_groups beyond =
    sym (filter-all_fail (λ u. eqb (group_at groups u) g)
    (range_with_len 0 (length groups.uses)) (λ u is_in.
    let below = range-Contains (length groups.uses) u is_in in
    let one : UseGroupData = get_or groups.uses u (record { group = 0; has = [] }) in
    let found : slice_get groups.uses u ≡ Some one =
    slice_get-get_or groups.uses u (record { group = 0; has = [] }) below in
    let group : group_at groups u ≡ one.group = rw found refl in
    ne_eqb (group_at groups u) g (λ same.
    omega (arith, is_groups.below u (record { group = 0; has = [] }) below, group, same))))

-- Its use cases are there.
pub uses_of-below : (groups : GroupsData) (g i : ℕ) → i < length (uses_of groups g)
    → get_or (uses_of groups g) i 0 < length groups.uses
uses_of-below groups g i within =
    range-Contains (length groups.uses) (get_or (uses_of groups g) i 0)
    (filter-Contains (λ u. eqb (group_at groups u) g) (range_with_len 0 (length groups.uses))
    (get_or (uses_of groups g) i 0) (
      i,
      within,
      get_or_default (uses_of groups g) i (get_or (uses_of groups g) i 0) 0 within,
    )).0

-- ---- tests of the use cases of a unit

-- A test that passes no use case but those of a group passes one of all where it passes one of
-- these.
pub any-uses_of : (groups : GroupsData) (g : ℕ) (test : ℕ → Bool)
    → ((u : ℕ) → test u ≡ true → eqb (group_at groups u) g ≡ true)
    → list_any test (uses_of groups g) ≡ list_any test (range_with_len 0 (length groups.uses))
any-uses_of groups g test within =
    any-filter_same test (λ u. eqb (group_at groups u) g) true within
    (range_with_len 0 (length groups.uses))

-- The use cases that have a unit are of its group.
pub group-has_unit : (groups : GroupsData) (unit : GroupUnit) (u : ℕ)
    → has_unit groups unit u ≡ true → eqb (group_at groups u) unit.group.0 ≡ true
group-has_unit groups unit u has =
    (and_parts (has_at groups u unit.conn.0) (eqb (group_at groups u) unit.group.0) has).1

-- They are there.
pub use_is_there : (groups : GroupsData) (unit : GroupUnit) (u : ℕ)
    → has_unit groups unit u ≡ true → u < length groups.uses
use_is_there groups unit u has = elim (cases_lt u (length groups.uses)) [
  | inl there ↦ there
  | inr past ↦ absurd (false≢true (rw (slice_get_past groups.uses u past) at has))
]

-- Some use case has a unit where the group has its connection.
unit_from_member : (groups : GroupsData) (unit : GroupUnit)
    → is_member groups unit.group.0 unit.conn.0 ≡ true
    → list_any (has_unit groups unit) (range_with_len 0 (length groups.uses)) ≡ true
unit_from_member groups unit member =
    let some = passes_from_any
    (λ (one : UseGroupData). eqb one.group unit.group.0 && is_marked one.has unit.conn.0)
    groups.uses member in
    let one : UseGroupData = some.item in
    let (group, has) = and_parts (eqb one.group unit.group.0) (is_marked one.has unit.conn.0)
    some.passes in
    let at = some.is_in in
    let found : slice_get groups.uses at.0 ≡ Some one =
    slice_get-get_or groups.uses at.0 one at.1 ∙ ap Some at.2 in
    any_from_passer (has_unit groups unit) (length groups.uses) at.0 at.1
    (rw found (and_from _ _ has group))

-- The group has a connection where some use case has the unit.
member_from_unit : (groups : GroupsData) (unit : GroupUnit)
    → list_any (has_unit groups unit) (range_with_len 0 (length groups.uses)) ≡ true
    → is_member groups unit.group.0 unit.conn.0 ≡ true
member_from_unit groups unit has =
    let passer = passer_from_any (has_unit groups unit) (length groups.uses) has in
    let u : ℕ = passer.number in
    let nothing : UseGroupData = record { group = 0; has = [] } in
    let one : UseGroupData = get_or groups.uses u nothing in
    let found : slice_get groups.uses u ≡ Some one =
    slice_get-get_or groups.uses u nothing passer.below in
    let (marked, group) = and_parts (is_marked one.has unit.conn.0) (eqb one.group unit.group.0)
    (rw found at passer.passes) in
    any_from_passes
    (λ (other : UseGroupData). eqb other.group unit.group.0 && is_marked other.has unit.conn.0)
    groups.uses one
    (u, passer.below, same_Some _ _ (sym (slice_get-get_or groups.uses u one passer.below) ∙ found))
    (and_from _ _ group marked)

-- A group has a connection exactly where one of its use cases has the unit.
pub member-uses_of : (groups : GroupsData) (unit : GroupUnit)
    → list_any (has_unit groups unit) (uses_of groups unit.group.0)
    ≡ is_member groups unit.group.0 unit.conn.0
member-uses_of groups unit =
    any-uses_of groups unit.group.0 (has_unit groups unit) (group-has_unit groups unit)
    ∙ same_tests _ _ (member_from_unit groups unit) (unit_from_member groups unit)
