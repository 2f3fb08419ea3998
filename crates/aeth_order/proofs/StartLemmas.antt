-- The table of units of an application, in which all of them wait.
use Rattle.std.proofs.Common.{◌≡◌, ◌<◌, ◌≤◌, ◌∙◌, ◌+◌, ◌*◌, ◌/◌, ◌%◌, ◌++◌, ◌&&◌, ℕ, zero, suc}
use Rattle.std.proofs.Common.{Bool, false, eqb, List, [], ◌∷◌, refl, sym, ap, inl, inr, subst}
use Rattle.std.proofs.Common.{arith, filter, length, map, slice_get, All, flat_map, ne_eqb}
use Rattle.std.proofs.Math.Nat.{div-add-mod, mod-eq_of_lt, mod-lt, mul-add-mod_self_left}
use Rattle.std.proofs.lemmas.{Bool.and_left, Bool.cases_Bool, Bool.or_from, List.flat_map_more}
use Rattle.std.proofs.lemmas.{List.map-append, List.Elements.filter-append}
use Rattle.std.proofs.lemmas.{List.Sorted.Contains-permutation, List.Sorted.IsPermutation-sym}
use Rattle.std.proofs.lemmas.{List.FromFn.length-map-range_with_len, Nat.div-mul-add, Simd.map-map}
use Rattle.std.specs.List.{items_where_true, list_any, range_with_len, Sorted.IsPermutation}
use Rattle.aeth_base.specs.declared.ids.Unit.{Unit as GroupUnit}
use Rattle.aeth_base.proofs.{Lists.item-at, Ranges.map-range-at, Ranges.range_with_len-more}
use Rattle.aeth_base.proofs.{Filters.filter-no, Filters.filter-yes}
use Rattle.aeth_app.specs.{App.AppData, App.IsApp, App.is_marked, Limits.max_uses}
use Rattle.aeth_group.specs.Members.{GroupsData, IsGroups, UseGroupData, groups_of, is_member}
use Rattle.aeth_group.specs.Members.{units_with}
use Rattle.aeth_group.proofs.MemberLemmas.{connections-groups_of, is_groups-groups_of}
use Rattle.aeth_order.specs.declared.keys.UnitKeys.{UnitKeys}
use Rattle.aeth_order.specs.Grid.{Falls, IsGrid, IsOrdered, IsPlaced, grid_of, is_unit_at, marks_of}
use Rattle.aeth_order.specs.Grid.{places, unit_at}
use Rattle.aeth_order.specs.Units.{all_units, keys_by, keys_of}
use Rattle.aeth_order.proofs.GridLemmas.{marked-at, marked-map}

-- ---- each place has its own unit

keys-placed : (app : AppData) (place : ℕ) → IsApp app → place < places (length app.connections)
    → IsPlaced place (keys_of app (unit_at place))
keys-placed app place is low =
    let whole = div-add-mod place max_uses in
    let conn : place / max_uses < length app.connections = omega (arith, whole, low) in
    let (connection, at) = item-at app.connections (place / max_uses) conn in
    subst (λ o. IsPlaced place (keys_by app.slots (unit_at place) o)) (sym at)
    (record { unit = whole; group = mod-lt place (omega arith) })

-- The table of an application, with the marks of its units.
pub grid-start : (app : AppData) (groups : GroupsData) → IsApp app → groups ≡ groups_of app
    → IsGrid (grid_of app) (marks_of groups)
grid-start app groups is are =
    let same : groups.connections ≡ length app.connections =
    ap (λ (g : GroupsData). g.connections) are ∙ connections-groups_of app in
    record {
      size = length-map-range_with_len (is_unit_at groups) 0 (places groups.connections)
          ∙ ap places same
          ∙ sym (length-map-range_with_len (λ p. keys_of app (unit_at p)) 0
          (places (length app.connections)));
      placed = λ place a at.
          let (low, keys) = map-range-at (λ p. keys_of app (unit_at p)) 0
          (places (length app.connections)) place a at in
          let same : 0 + place ≡ place = omega arith in
          subst (λ b. IsPlaced place b) (sym (keys ∙ ap (λ p. keys_of app (unit_at p)) same))
          (keys-placed app place is low);
    }

-- All units wait, in their own order.
pub order-start : (grid : List UnitKeys) (marks : List Bool) (order : List UnitKeys)
    → IsGrid grid marks → IsPermutation (items_where_true marks grid) order
    → Falls order → IsOrdered grid marks order
order-start grid marks order is same falls =
    let units : List UnitKeys = items_where_true marks grid in
    record {
      table = is;
      falls = falls;
      units = λ a has.
          let at = marked-at marks grid a
          (Contains-permutation order units a (IsPermutation-sym units order same) has) in
          ap (slice_get grid) (is.placed at.place a at.is).unit ∙ at.is;
      waiting = λ a has. Contains-permutation units order a same has;
    }

-- ---- the marked places are the units

-- No group past the last has a connection.
no-member : (uses : List UseGroupData) (count g c : ℕ) → All (λ one. one.group < count) uses
    → count ≤ g → list_any (λ one. eqb one.group g && is_marked one.has c) uses ≡ false
no-member [] count g c below past = refl
no-member (one ∷ uses) count g c below past =
    let first : one.group < count = below 0 one (omega arith) in
    or_from _ _ (and_left _ (is_marked one.has c)
    (ne_eqb one.group g (λ same. absurd (omega (arith, first, same, past)))))
    (no-member uses count g c (λ i d within. below (suc i) d (omega arith)) past)

past-members : (groups : GroupsData) (c g many : ℕ) → IsGroups groups → groups.count ≤ g
    → filter (λ k. is_member groups k c) (range_with_len g many) ≡ []
past-members groups c g zero is past = refl
past-members groups c g (suc many) is past =
    filter-no (λ k. is_member groups k c) g (range_with_len (g + 1) many)
    (no-member groups.uses groups.count g c is.below past)
    ∙ past-members groups c (g + 1) many is (omega arith)

-- The groups from one on that have a connection: those that there are.
members-from : (groups : GroupsData) (c g few many : ℕ) → IsGroups groups → few ≤ many
    → g + few ≡ groups.count
    → filter (λ k. is_member groups k c) (range_with_len g many)
    ≡ filter (λ k. is_member groups k c) (range_with_len g few)
members-from groups c g zero zero is le end = refl
members-from groups c g zero (suc many) is le end =
    past-members groups c g (suc many) is (omega arith)
members-from groups c g (suc few) zero is le end = absurd (omega arith)
members-from groups c g (suc few) (suc many) is le end =
    let has : ℕ → Bool = λ k. is_member groups k c in
    let rest = members-from groups c (g + 1) few many is (omega arith) (omega arith) in
    elim (cases_Bool (has g)) [
      | inl in_it ↦
          filter-yes has g (range_with_len (g + 1) many) in_it ∙ ap (λ ks. g ∷ ks) rest
          ∙ sym (filter-yes has g (range_with_len (g + 1) few) in_it)
      | inr out ↦
          filter-no has g (range_with_len (g + 1) many) out ∙ rest
          ∙ sym (filter-no has g (range_with_len (g + 1) few) out)
    ]

-- The unit of a place, by the connection and the group.
unit-of-place : (c g : ℕ) → g < max_uses
    → ((max_uses * c + g) / max_uses ≡ c) × ((max_uses * c + g) % max_uses ≡ g)
unit-of-place c g low =
    let turned : max_uses * c + g ≡ c * max_uses + g = omega arith in (
      ap (λ n. n / max_uses) turned ∙ div-mul-add c max_uses g low,
      mul-add-mod_self_left max_uses c g ∙ mod-eq_of_lt low,
    )

-- A connection with a group.
abbrev unit_with : ℕ → ℕ → GroupUnit
unit_with c g = record { conn = record { 0 = c }; group = record { 0 = g } }

-- The units among some places of a connection.
places-row : (groups : GroupsData) (c g k : ℕ) → g + k ≤ max_uses
    → map unit_at (filter (is_unit_at groups) (range_with_len (max_uses * c + g) k))
    ≡ map (unit_with c) (filter (λ h. is_member groups h c) (range_with_len g k))
places-row groups c g zero low = refl
places-row groups c g (suc k) low =
    let place : ℕ = max_uses * c + g in
    let test : ℕ → Bool = is_unit_at groups in
    let has : ℕ → Bool = λ h. is_member groups h c in
    let (conn, group) = unit-of-place c g (omega arith) in
    let marked : test place ≡ has g =
    ap (λ h. is_member groups h (place / max_uses)) group ∙ ap (is_member groups g) conn in
    let unit : unit_at place ≡ unit_with c g =
    ap (λ n. unit_with n (place % max_uses)) conn ∙ ap (unit_with c) group in
    let next : place + 1 ≡ max_uses * c + (g + 1) = omega arith in
    let rest = ap (λ p. map unit_at (filter test (range_with_len p k))) next
    ∙ places-row groups c (g + 1) k (omega arith) in
    elim (cases_Bool (has g)) [
      | inl in_it ↦
          ap (map unit_at) (filter-yes test place (range_with_len (place + 1) k) (marked ∙ in_it))
          ∙ ap (λ u. u ∷ map unit_at (filter test (range_with_len (place + 1) k))) unit
          ∙ ap (λ us. unit_with c g ∷ us) rest
          ∙ sym (ap (map (unit_with c)) (filter-yes has g (range_with_len (g + 1) k) in_it))
      | inr out ↦
          ap (map unit_at) (filter-no test place (range_with_len (place + 1) k) (marked ∙ out))
          ∙ rest
          ∙ sym (ap (map (unit_with c)) (filter-no has g (range_with_len (g + 1) k) out))
    ]

-- Numbers up to one and from it on.
range-split : (a n m t b : ℕ) → t ≡ n + m → b ≡ a + n
    → range_with_len a t ≡ range_with_len a n ++ range_with_len b m
range-split a zero m t b total from =
    let whole : t ≡ m = omega arith in
    let start : a ≡ b = omega arith in
    ap (range_with_len a) whole ∙ ap (λ x. range_with_len x m) start
range-split a (suc n) m t b total from =
    let whole : t ≡ suc (n + m) = omega arith in
    ap (range_with_len a) whole
    ∙ ap (λ ns. a ∷ ns) (range-split (a + 1) n m (n + m) b refl (omega arith))

-- The units among all places.
places-units : (groups : GroupsData) (n : ℕ) → IsGroups groups
    → map unit_at (filter (is_unit_at groups) (range_with_len 0 (places n)))
    ≡ flat_map (units_with groups) (range_with_len 0 n)
places-units groups zero is =
    let none : places zero ≡ 0 = omega arith in
    ap (λ k. map unit_at (filter (is_unit_at groups) (range_with_len 0 k))) none
places-units groups (suc n) is =
    let test : ℕ → Bool = is_unit_at groups in
    let before : List ℕ = range_with_len 0 (places n) in
    let row : List ℕ = range_with_len (places n) max_uses in
    let start : places n ≡ max_uses * n + 0 = omega arith in
    let all = flat_map (units_with groups) (range_with_len 0 n) in
    ap (λ ps. map unit_at (filter test ps)) (range-split 0 (places n) max_uses (places (suc n))
    (places n) (omega arith) (omega arith))
    ∙ ap (map unit_at) (filter-append test before row)
    ∙ map-append unit_at (filter test before) (filter test row)
    ∙ ap (λ us. us ++ map unit_at (filter test row)) (places-units groups n is)
    ∙ ap (λ us. all ++ us) (ap (λ b. map unit_at (filter test (range_with_len b max_uses))) start
    ∙ places-row groups n 0 max_uses (omega arith)
    ∙ ap (map (unit_with n)) (members-from groups n 0 groups.count max_uses is is.count
    (omega arith)))
    ∙ flat_map_more (units_with groups) [] (range_with_len 0 n) n
    ∙ ap (flat_map (units_with groups)) (sym (range_with_len-more 0 n n (omega arith)))

-- The marked places are all units.
pub grid-units : (app : AppData) (groups : GroupsData) → IsApp app → groups ≡ groups_of app
    → items_where_true (marks_of groups) (grid_of app) ≡ all_units app groups
unfolding all_units
grid-units app groups is are =
    let same : groups.connections ≡ length app.connections =
    ap (λ (g : GroupsData). g.connections) are ∙ connections-groups_of app in
    let isg = subst IsGroups (sym are) (is_groups-groups_of app is.connections is.uses) in
    let keys : ℕ → UnitKeys = λ p. keys_of app (unit_at p) in
    let all : List ℕ = range_with_len 0 (places groups.connections) in
    ap (λ n. items_where_true (marks_of groups) (map keys (range_with_len 0 (places n))))
    (sym same)
    ∙ marked-map (is_unit_at groups) keys all
    ∙ sym (map-map (keys_of app) unit_at (filter (is_unit_at groups) all))
    ∙ ap (map (keys_of app)) (places-units groups groups.connections isg)
