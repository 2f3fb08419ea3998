-- A unit waits no more.
use Rattle.std.proofs.Common.{◌≡◌, ◌<◌, ◌∙◌, Bool, true, false, eqb, List, Contains, Some, sym, ap}
use Rattle.std.proofs.Common.{subst, arith, not, set, slice_get, eq-eqb, eqb-true, length-set}
use Rattle.std.proofs.lemmas.Bool.{and_from, and_parts, false_from_ne_true, not-true}
use Rattle.std.specs.List.{items_where_true}
use Rattle.aeth_base.{specs.declared.ids.Unit.Unit as GroupUnit, proofs.Members.filter-Contains}
use Rattle.aeth_app.specs.Limits.{max_uses}
use Rattle.aeth_order.specs.{declared.keys.UnitKeys.UnitKeys, Grid.Falls, Grid.IsGrid}
use Rattle.aeth_order.specs.{Grid.IsOrdered, Grid.grid_place, Units.is_unit, Units.units_without}
use Rattle.aeth_order.proofs.GridLemmas.{marked-cleared, marked-none}

-- The test of a unit tells its place.
unit-place : (unit : GroupUnit) (a : UnitKeys) → is_unit unit a ≡ true
    → grid_place a.unit ≡ grid_place unit
unit-place unit a is =
    let (conn, group) = and_parts (eqb a.unit.conn.0 unit.conn.0) (eqb a.unit.group.0 unit.group.0)
    is in
    let conns = eqb-true a.unit.conn.0 unit.conn.0 conn in
    let groups = eqb-true a.unit.group.0 unit.group.0 group in
    omega (arith, conns, groups)

-- The place of a unit tells it.
unit-at : (unit : GroupUnit) (a : UnitKeys) → grid_place a.unit ≡ grid_place unit
    → a.unit.group.0 < max_uses → unit.group.0 < max_uses → is_unit unit a ≡ true
unit-at unit a same low low' =
    let conn : a.unit.conn.0 ≡ unit.conn.0 = omega (arith, same, low, low') in
    let group : a.unit.group.0 ≡ unit.group.0 = omega (arith, same, low, low') in
    and_from (eqb a.unit.conn.0 unit.conn.0) (eqb a.unit.group.0 unit.group.0)
    (eq-eqb a.unit.conn.0 unit.conn.0 conn) (eq-eqb a.unit.group.0 unit.group.0 group)

-- The waiting units without the one at a place.
pub marks-done : (grid : List UnitKeys) (marks : List Bool) (unit : GroupUnit)
    → IsGrid grid marks → unit.group.0 < max_uses
    → items_where_true (set marks (grid_place unit) false) grid
    ≡ units_without unit (items_where_true marks grid)
marks-done grid marks unit is low =
    marked-cleared (is_unit unit) marks grid (grid_place unit)
    (λ x at. let placed = is.placed (grid_place unit) x at in
    unit-at unit x placed.unit placed.group low)
    (λ q x apart at. false_from_ne_true (is_unit unit x) (λ here.
    apart (sym (is.placed q x at).unit ∙ unit-place unit x here)))

-- A unit that has no place doesn't wait.
pub marks-same : (grid : List UnitKeys) (marks : List Bool) (unit : GroupUnit)
    → IsGrid grid marks
    → ((a : UnitKeys) → slice_get grid (grid_place unit) ≡ Some a → unit.group.0 < max_uses → ⊥)
    → units_without unit (items_where_true marks grid) ≡ items_where_true marks grid
marks-same grid marks unit is none =
    marked-none (is_unit unit) marks grid (λ q x at.
    false_from_ne_true (is_unit unit x) (λ here.
    let placed = is.placed q x at in
    let (_, group) = and_parts (eqb x.unit.conn.0 unit.conn.0) (eqb x.unit.group.0 unit.group.0)
    here in
    let same = eqb-true x.unit.group.0 unit.group.0 group in
    let there : q ≡ grid_place unit = sym placed.unit ∙ unit-place unit x here in
    none x (ap (slice_get grid) (sym there) ∙ at) (omega (arith, same, placed.group))))

-- A unit had its turn, and was taken out: all others that wait are left.
pub order-done : (grid : List UnitKeys) (marks : List Bool) (order left : List UnitKeys)
    (unit : GroupUnit) → IsOrdered grid marks order → unit.group.0 < max_uses → Falls left
    → ((a : UnitKeys) → Contains left a → Contains order a)
    → ((a : UnitKeys) → Contains order a → is_unit unit a ≡ false → Contains left a)
    → IsOrdered grid (set marks (grid_place unit) false) left
order-done grid marks order left unit is low falls among others = record {
  table = record {
    size = length-set marks (grid_place unit) false ∙ is.table.size;
    placed = is.table.placed;
  };
  falls = falls;
  units = λ a has. is.units a (among a has);
  waiting = λ a has.
      let before = subst (λ us. Contains us a) (marks-done grid marks unit is.table low) has in
      let (waits, apart) = filter-Contains (λ b. not (is_unit unit b)) (items_where_true marks grid)
      a before in
      others a (is.waiting a waits) (not-true (is_unit unit a) apart);
}
