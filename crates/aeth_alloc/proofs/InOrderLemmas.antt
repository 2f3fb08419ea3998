-- Grants in a plan's order: they are the same grants, and rise.
use Rattle.std.proofs.Common.{◌≡◌, ◌∙◌, ◌<◌, ◌⊎◌, ℕ, suc, Bool, true, false, cond, eqb, List, []}
use Rattle.std.proofs.Common.{◌∷◌, Contains, filter, refl, sym, ap, subst, inl, inr, arith}
use Rattle.std.proofs.Common.{AllPairs, nat_lt, ◌==◌, eq-eqb, eqb-true}
use Rattle.std.proofs.lemmas.Bool.{and_from, and_parts, Decides.nat_tests}
use Rattle.std.proofs.lemmas.List.Elements.{Contains-append_cases, Contains-append_left}
use Rattle.std.proofs.lemmas.List.Elements.{Contains-append_right}
use Rattle.std.specs.List.{range_with_len, Sorted.IsPermutation}
use Rattle.aeth_base.proofs.Members.{Contains-filter, Contains-flat_map, filter-Contains}
use Rattle.aeth_base.proofs.Members.{flat_map-Contains, map-Contains}
use Rattle.aeth_base.proofs.SideLemmas.{same_side-is, same_side-itself}
use Rattle.aeth_base.specs.declared.ids.Side.{Side, TheVariants.Back, TheVariants.Fwd}
use Rattle.aeth_base.specs.declared.ids.Unit.{Unit as GroupUnit}
use Rattle.aeth_base.specs.Sides.{same_side}
use Rattle.aeth_group.specs.Members.{GroupsData, is_member, units_of, units_with}
use Rattle.aeth_group.specs.declared.grant.Grant.{Grant}
use Rattle.aeth_plan.specs.{Making.AreApart, Plan.PlanData, Plan.grant_before, Plan.side_before}
use Rattle.aeth_plan.specs.{UnitGrants.is_for}
use Rattle.aeth_plan.proofs.MadePlans.{grants_apart}
use Rattle.aeth_text.specs.Order.{Rises}
use Rattle.aeth_alloc.specs.Allocation.{grants_for, in_order}
use Rattle.aeth_alloc.proofs.OnceLists.{AreOnce, once-pairs, once-permutation}
use Rattle.aeth_alloc.proofs.OrderedLists.{Ordered, ordered-append, ordered-filter}
use Rattle.aeth_alloc.proofs.OrderedLists.{ordered-flat_map, ordered-map, ordered-range}
use Rattle.aeth_alloc.proofs.OrderedLists.{rises-ordered}

-- Units with one connection and one group are one.
pub one-unit : (a b : GroupUnit) → a.conn.0 ≡ b.conn.0 → a.group.0 ≡ b.group.0 → a ≡ b
one-unit a b conns groups =
    λ i. record { conn = record { 0 = conns i }; group = record { 0 = groups i } }

-- ---- which grants are for a side of a unit

is-for : (unit : GroupUnit) (side : Side) (grant : Grant) → is_for unit side grant ≡ true
    → (grant.unit ≡ unit) × (grant.side ≡ side)
is-for unit side grant passes =
    let (conn, onward) = and_parts (eqb grant.unit.conn.0 unit.conn.0) _ passes in
    let (group, same) = and_parts (eqb grant.unit.group.0 unit.group.0) _ onward in (
      one-unit grant.unit unit (eqb-true _ _ conn) (eqb-true _ _ group),
      same_side-is grant.side side same,
    )

for-is : (unit : GroupUnit) (side : Side) (grant : Grant) → grant.unit ≡ unit → grant.side ≡ side
    → is_for unit side grant ≡ true
for-is unit side grant units sides =
    and_from _ _ (eq-eqb _ _ (ap (λ (u : GroupUnit). u.conn.0) units))
    (and_from _ _ (eq-eqb _ _ (ap (λ (u : GroupUnit). u.group.0) units))
    (ap (λ s. same_side s side) sides ∙ same_side-itself side))

-- ---- the same grants

of-unit : (grants : List Grant) (unit : GroupUnit) (grant : Grant)
    → Contains (grants_for grants unit) grant → Contains grants grant × (grant.unit ≡ unit)
of-unit grants unit grant has =
    elim (Contains-append_cases (filter (is_for unit Fwd) grants)
    (filter (is_for unit Back) grants) grant has) [
      | inl fwd ↦
          let (among, passes) = filter-Contains (is_for unit Fwd) grants grant fwd in
          (among, (is-for unit Fwd grant passes).0)
      | inr back ↦
          let (among, passes) = filter-Contains (is_for unit Back) grants grant back in
          (among, (is-for unit Back grant passes).0)
    ]

for-unit : (grants : List Grant) (grant : Grant) (side : Side) → Contains grants grant
    → grant.side ≡ side → Contains (grants_for grants grant.unit) grant
for-unit grants grant Fwd has side =
    Contains-append_left (filter (is_for grant.unit Fwd) grants) _ grant
    (Contains-filter (is_for grant.unit Fwd) grants grant has
    (for-is grant.unit Fwd grant refl side))
for-unit grants grant Back has side =
    Contains-append_right _ (filter (is_for grant.unit Back) grants) grant
    (Contains-filter (is_for grant.unit Back) grants grant has
    (for-is grant.unit Back grant refl side))

-- What is in a plan's order is one of the grants.
pub in_order-Contains : (groups : GroupsData) (grants : List Grant) (grant : Grant)
    → Contains (in_order groups grants) grant → Contains grants grant
in_order-Contains groups grants grant has =
    let (unit, among, inside) = flat_map-Contains (grants_for grants) (units_of groups) grant has in
    (of-unit grants unit grant inside).0

-- Each grant of a unit is in it.
pub Contains-in_order : (groups : GroupsData) (grants : List Grant) (grant : Grant)
    → Contains grants grant → Contains (units_of groups) grant.unit
    → Contains (in_order groups grants) grant
Contains-in_order groups grants grant has unit =
    Contains-flat_map (grants_for grants) (units_of groups) grant.unit grant unit
    (for-unit grants grant grant.side has refl)

-- ---- the order of units

-- A unit comes before another: by its connection, or by its group.
abbrev IsBefore : GroupUnit → GroupUnit → Type 0
IsBefore a b = (a.conn.0 < b.conn.0) ⊎ ((a.conn.0 ≡ b.conn.0) × (a.group.0 < b.group.0))

-- A unit of a connection.
unit-with : (groups : GroupsData) (c : ℕ) (unit : GroupUnit) → Contains (units_with groups c) unit
    → unit.conn.0 ≡ c
unit-with groups c unit has =
    let (g, same, among) = map-Contains (λ g. record { conn = record { 0 = c }; group = record { 0 = g } })
    (filter (λ g. is_member groups g c) (range_with_len 0 groups.count)) unit has in
    ap (λ (u : GroupUnit). u.conn.0) (sym same)

ordered-units : (groups : GroupsData) → Ordered IsBefore (units_of groups)
ordered-units groups =
    ordered-flat_map IsBefore (λ a b. a < b) (units_with groups)
    (range_with_len 0 groups.connections) (ordered-range 0 groups.connections)
    (λ c has. ordered-map IsBefore (λ a b. a < b)
    (λ g. record { conn = record { 0 = c }; group = record { 0 = g } })
    (filter (λ g. is_member groups g c) (range_with_len 0 groups.count))
    (ordered-filter (λ a b. a < b) (λ g. is_member groups g c) (range_with_len 0 groups.count)
    (ordered-range 0 groups.count))
    (λ g h less. inr (refl, less)))
    (λ c d a b less has has'.
    let first = unit-with groups c a has in
    let second = unit-with groups d b has' in
    inl (omega (arith, first, second, less)))

-- ---- the order of grants

by-unit : (m n p q : ℕ) (s : Bool) → (m < n) ⊎ ((m ≡ n) × (p < q))
    → cond (m == n) (cond (p == q) s (nat_lt p q)) (nat_lt m n) ≡ true
by-unit m n p q s (inl less) = grind (arith, nat_tests)
by-unit m n p q s (inr (same, less)) = grind (arith, nat_tests)

-- Grants of units in order are in order.
before-by-unit : (a b : Grant) → IsBefore a.unit b.unit → grant_before a b ≡ true
before-by-unit a b before = by-unit a.unit.conn.0 b.unit.conn.0 a.unit.group.0 b.unit.group.0
    (side_before a.side b.side) before

same-unit : (m p : ℕ) (s : Bool)
    → cond (m == m) (cond (p == p) s (nat_lt p p)) (nat_lt m m) ≡ s
same-unit m p s = grind (arith, nat_tests)

-- Of one unit `fwd` comes before `back`.
before-by-side : (a b : Grant) → a.unit ≡ b.unit → a.side ≡ Fwd → b.side ≡ Back
    → grant_before a b ≡ true
before-by-side a b unit fwd back =
    let shown : grant_before a b
    ≡ grant_before (record { unit = b.unit; side = Fwd; path = a.path; slots = a.slots })
    (record { unit = b.unit; side = Back; path = b.path; slots = b.slots }) =
    λ k. grant_before (record { unit = unit k; side = fwd k; path = a.path; slots = a.slots })
    (record { unit = b.unit; side = back k; path = b.path; slots = b.slots }) in
    shown ∙ same-unit b.unit.conn.0 b.unit.group.0 true

-- At most one grant is for a side of a unit.
ordered-alone : (unit : GroupUnit) (side : Side) (grants : List Grant) → AllPairs AreApart grants
    → Ordered (λ a b. grant_before a b ≡ true) (filter (is_for unit side) grants)
ordered-alone unit side [] apart = tt
ordered-alone unit side (x ∷ grants) apart =
    let rest = ordered-alone unit side grants (λ i j d below within.
    apart (suc i) (suc j) d (omega arith) (omega arith)) in
    let cases : (b : Bool) → is_for unit side x ≡ b
    → Ordered (λ a b. grant_before a b ≡ true)
    (cond b (x ∷ filter (is_for unit side) grants) (filter (is_for unit side) grants)) =
    elim [
      | true ↦ λ is. (
        (λ y has.
            let (among, passes) = filter-Contains (is_for unit side) grants y has in
            let one = is-for unit side x is in
            let two = is-for unit side y passes in
            let (k, within, at) = among in
            absurd (subst (AreApart x) at (apart 0 (suc k) y (omega arith) (omega arith))
            (one.0 ∙ sym two.0) (one.1 ∙ sym two.1))),
        rest,
      )
      | false ↦ λ is. rest
    ]
    in cases (is_for unit side x) refl

ordered-for : (grants : List Grant) (unit : GroupUnit) → AllPairs AreApart grants
    → Ordered (λ a b. grant_before a b ≡ true) (grants_for grants unit)
ordered-for grants unit apart =
    ordered-append (λ a b. grant_before a b ≡ true) (filter (is_for unit Fwd) grants)
    (filter (is_for unit Back) grants) (ordered-alone unit Fwd grants apart)
    (ordered-alone unit Back grants apart) (λ a b has has'.
    let one = is-for unit Fwd a (filter-Contains (is_for unit Fwd) grants a has).1 in
    let two = is-for unit Back b (filter-Contains (is_for unit Back) grants b has').1 in
    before-by-side a b (one.0 ∙ sym two.0) one.1 two.1)

-- In a plan's order each grant comes before all behind it.
pub in_order-ordered : (groups : GroupsData) (grants : List Grant) → AllPairs AreApart grants
    → Ordered (λ a b. grant_before a b ≡ true) (in_order groups grants)
in_order-ordered groups grants apart =
    ordered-flat_map (λ a b. grant_before a b ≡ true) IsBefore (grants_for grants)
    (units_of groups) (ordered-units groups) (λ unit has. ordered-for grants unit apart)
    (λ u v a b before has has'.
    let one : a.unit ≡ u = (of-unit grants u a has).1 in
    let two : b.unit ≡ v = (of-unit grants v b has').1 in
    before-by-unit a b (subst (λ (w : GroupUnit). IsBefore a.unit w) (sym two)
    (subst (λ (w : GroupUnit). IsBefore w v) (sym one) before)))

-- So they rise.
pub in_order-rises : (groups : GroupsData) (grants : List Grant) → AllPairs AreApart grants
    → Rises grant_before (in_order groups grants)
in_order-rises groups grants apart =
    rises-ordered grant_before (in_order groups grants) (in_order-ordered groups grants apart)

-- ---- each once

-- Grants that stand apart stand once each.
pub once-apart : (grants : List Grant) → AllPairs AreApart grants → AreOnce grants
once-apart grants apart = once-pairs AreApart (λ grant never. never refl refl) grants apart

-- In a plan's order they stand apart too.
pub in_order-apart : (groups : GroupsData) (grants : List Grant) → AllPairs AreApart grants
    → AllPairs AreApart (in_order groups grants)
in_order-apart groups grants apart =
    let plan : PlanData = record { slots = 0; seats = []; grants = in_order groups grants } in
    grants_apart plan (record { seats = tt; grants = in_order-rises groups grants apart })

-- Grants of units that stand apart are only moved.
pub in_order-permutation : (groups : GroupsData) (grants : List Grant) → AllPairs AreApart grants
    → ((grant : Grant) → Contains grants grant → Contains (units_of groups) grant.unit)
    → IsPermutation grants (in_order groups grants)
in_order-permutation groups grants apart units =
    once-permutation grants (in_order groups grants) (once-apart grants apart)
    (once-apart (in_order groups grants) (in_order-apart groups grants apart))
    (λ grant has. Contains-in_order groups grants grant has (units grant has))
    (in_order-Contains groups grants)
