-- A search by halves among grants in order.
use Rattle.std.proofs.Common.{◌≡◌, ◌∙◌, ◌<◌, ◌≤◌, ◌+◌, ℕ, Bool, true, false, List, Some, eqb}
use Rattle.std.proofs.Common.{length, slice_get, refl, sym, ap, inl, inr, arith, eqb-true}
use Rattle.std.proofs.lemmas.Bool.{and_parts, cases_lt, false_from_ne_true, false≢true}
use Rattle.std.proofs.lemmas.Option.{same_Some, slice_get_within}
use Rattle.aeth_base.specs.declared.ids.{Side.Side, Unit.Unit as GroupUnit}
use Rattle.aeth_base.proofs.SideLemmas.{same_side-is}
use Rattle.aeth_base.proofs.Members.{Contains-slice_get, slice_get-Contains}
use Rattle.aeth_group.specs.declared.grant.Grant.{Grant}
use Rattle.aeth_group.proofs.ListLemmas.{any_from_passes, passes_from_any}
use Rattle.aeth_text.specs.Order.{Rises}
use Rattle.aeth_plan.{specs.Plan.grant_before, proofs.MadePlans.before_trans}
use Rattle.aeth_plan.{specs.UnitGrants.is_before, specs.UnitGrants.is_for, specs.UnitGrants.sought}
use Rattle.aeth_check.specs.Channels.{has_side}
use Rattle.aeth_check.proofs.GrantOrder.{not_before, rises_at}

-- A grant for a side of a unit has its connection, group and side.
record IsFor (unit : GroupUnit) (side : Side) (grant : Grant) : Type 0 where
  conn : grant.unit.conn.0 ≡ unit.conn.0
  group : grant.unit.group.0 ≡ unit.group.0
  side_is : grant.side ≡ side

for_parts : (unit : GroupUnit) (side : Side) (grant : Grant) → is_for unit side grant ≡ true
    → IsFor unit side grant
for_parts unit side grant found =
    let (conn, onward) = and_parts (eqb grant.unit.conn.0 unit.conn.0) _ found in
    let (group, same) = and_parts (eqb grant.unit.group.0 unit.group.0) _ onward in record {
      conn = eqb-true _ _ conn;
      group = eqb-true _ _ group;
      side_is = same_side-is grant.side side same;
    }

module _ (unit : GroupUnit) (side : Side) (grants : List Grant)
    (rises : Rises grant_before grants) where
  -- Those up to one that comes before the side come before it.
  pub before_more : (m : ℕ) (y : Grant) → slice_get grants m ≡ Some y
      → is_before unit side y ≡ true → (k : ℕ) (x : Grant) → k < m + 1
      → slice_get grants k ≡ Some x → is_before unit side x ≡ true
  before_more m y at before k x below at_k = elim (cases_lt k m) [
    | inl less ↦ before_trans x y (sought unit side x)
        (rises_at grants rises k m x y less at_k at) before
    | inr past ↦
        let place : k ≡ m = omega arith in
        let same : x ≡ y = same_Some x y (sym at_k ∙ ap (slice_get grants) place ∙ at) in
        ap (is_before unit side) same ∙ before
  ]

  -- Those from one on that doesn't come before it don't.
  pub behind_more : (m : ℕ) (y : Grant) → slice_get grants m ≡ Some y
      → is_before unit side y ≡ false → (k : ℕ) (x : Grant) → m ≤ k
      → slice_get grants k ≡ Some x → is_before unit side x ≡ false
  behind_more m y at behind k x above at_k =
      false_from_ne_true (is_before unit side x) (λ before. elim (cases_lt m k) [
        | inl less ↦
            let earlier = before_trans y x (sought unit side y)
            (rises_at grants rises m k y x less at at_k) before in
            false≢true (sym behind ∙ earlier)
        | inr past ↦
            let place : k ≡ m = omega arith in
            let same : x ≡ y = same_Some x y (sym at_k ∙ ap (slice_get grants) place ∙ at) in
            false≢true (sym behind ∙ sym (ap (is_before unit side) same) ∙ before)
      ])

  not_for : (x : Grant) → is_before unit side x ≡ true → is_for unit side x ≡ true → ⊥
  not_for x before found =
      let is = for_parts unit side x found in
      false≢true (sym (not_before x (sought unit side x) is.conn is.group is.side_is) ∙ before)

  not_behind : (low k : ℕ) (y x : Grant) → slice_get grants low ≡ Some y
      → slice_get grants k ≡ Some x → low < k → is_before unit side y ≡ false
      → is_for unit side x ≡ true → ⊥
  not_behind low k y x at at_k less behind found =
      let is = for_parts unit side x found in
      let earlier = rises_at grants rises low k y x less at at_k in
      let same : grant_before y x ≡ is_before unit side y =
      rw (is.conn, is.group, is.side_is) refl in
      false≢true (sym behind ∙ sym same ∙ earlier)

  -- The grant at the place that was found decides.
  pub decided : (low : ℕ) (y : Grant) → slice_get grants low ≡ Some y
      → ((k : ℕ) (x : Grant) → k < low → slice_get grants k ≡ Some x
      → is_before unit side x ≡ true)
      → is_before unit side y ≡ false → is_for unit side y ≡ has_side grants unit side
  decided low y at before behind =
      let cases : (b : Bool) → is_for unit side y ≡ b → is_for unit side y ≡ has_side grants unit side =
      elim [
        | true ↦ λ is. is ∙ sym (any_from_passes (is_for unit side) grants y
            (Contains-slice_get grants low y at) is)
        | false ↦ λ is. is ∙ sym (false_from_ne_true (has_side grants unit side) (λ some.
            let found = passes_from_any (is_for unit side) grants some in
            let (k, at_k) = slice_get-Contains grants found.item found.is_in in
            elim (cases_lt k low) [
              | inl less ↦ not_for found.item (before k found.item less at_k) found.passes
              | inr past ↦ elim (cases_lt low k) [
                | inl more ↦ not_behind low k y found.item at at_k more behind found.passes
                | inr equal ↦
                    let place : k ≡ low = omega arith in
                    let same : found.item ≡ y =
                    same_Some found.item y (sym at_k ∙ ap (slice_get grants) place ∙ at) in
                    false≢true (sym is ∙ sym (ap (is_for unit side) same) ∙ found.passes)
              ]
            ]))
      ]
      in cases (is_for unit side y) refl

  -- Where all come before the side, none is for it.
  pub none_for : (low : ℕ) → length grants ≤ low
      → ((k : ℕ) (x : Grant) → k < low → slice_get grants k ≡ Some x
      → is_before unit side x ≡ true)
      → false ≡ has_side grants unit side
  none_for low past before =
      sym (false_from_ne_true (has_side grants unit side) (λ some.
      let found = passes_from_any (is_for unit side) grants some in
      let (k, at_k) = slice_get-Contains grants found.item found.is_in in
      let within = slice_get_within grants k found.item at_k in
      not_for found.item (before k found.item (omega (arith, within)) at_k) found.passes))
