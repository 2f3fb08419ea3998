-- The next unit is one that waits, and none is next only where none waits; each turn takes one.
use Rattle.std.proofs.Common.{◌≡◌, ◌<◌, true, List, [], Contains, Option, Some, None, eqb, filter}
use Rattle.std.proofs.Common.{length, not, refl, sym, ap, arith, option_map, eq-eqb, eqb-true}
use Rattle.std.proofs.lemmas.{Bool.and_from, Bool.and_parts, List.Filters.length-filter_both}
use Rattle.std.proofs.lemmas.{Option.none-some, Option.same_Some}
use Rattle.aeth_base.proofs.Members.{Contains-filter, Contains-some}
use Rattle.aeth_base.specs.declared.ids.Unit.{Unit as GroupUnit}
use Rattle.aeth_order.specs.{Order.first_by, Order.turn_order, Units.UnitsData, Units.is_unit}
use Rattle.aeth_order.specs.{Units.next_unit, Units.without_unit, declared.keys.UnitKeys.UnitKeys}
use Rattle.aeth_order.proofs.{LeastLemmas.first_by-none, NextLemmas.first_by-among}
use Rattle.aeth_seats.specs.Places.{Place}

-- A unit waits.
pub record Waits (units : UnitsData) (unit : GroupUnit) : Type 0 where
  pub keys : UnitKeys
  pub listed : Contains units.waiting keys
  pub unit_is : keys.unit ≡ unit

-- The next unit waits.
pub next-waits : (units : UnitsData) (places : List (Option Place)) (unit : GroupUnit)
    → next_unit units places ≡ Some unit → Waits units unit
next-waits units places unit is =
    let cases : (o : Option UnitKeys) → first_by (turn_order places) units.waiting ≡ o
    → option_map (λ (a : UnitKeys). a.unit) o ≡ Some unit → Waits units unit =
    elim [
      | None ↦ λ first none. absurd (none-some unit none)
      | Some keys ↦ λ first some. record {
        keys = keys;
        listed = first_by-among (turn_order places) units.waiting keys first;
        unit_is = same_Some keys.unit unit some;
      }
    ]
    in cases (first_by (turn_order places) units.waiting) refl is

-- Where no unit is next none waits.
pub none-waits : (units : UnitsData) (places : List (Option Place))
    → next_unit units places ≡ None → units.waiting ≡ []
none-waits units places is =
    let cases : (o : Option UnitKeys) → first_by (turn_order places) units.waiting ≡ o
    → option_map (λ (a : UnitKeys). a.unit) o ≡ None → units.waiting ≡ [] =
    elim [
      | None ↦ λ first none. first_by-none (turn_order places) units.waiting first
      | Some keys ↦ λ first some. absurd (none-some keys.unit (sym some))
    ]
    in cases (first_by (turn_order places) units.waiting) refl is

-- ---- units without one

-- The test of a unit passes exactly for its keys.
pub unit-is : (unit : GroupUnit) (keys : UnitKeys) → is_unit unit keys ≡ true
    → keys.unit ≡ unit
unit-is unit keys passes =
    let (conn, group) = and_parts (eqb keys.unit.conn.0 unit.conn.0) _ passes in
    let conns = eqb-true keys.unit.conn.0 unit.conn.0 conn in
    let groups = eqb-true keys.unit.group.0 unit.group.0 group in
    λ i. record { conn = record { 0 = conns i }; group = record { 0 = groups i } }

-- The other way.
pub is-unit : (unit : GroupUnit) (keys : UnitKeys) → keys.unit ≡ unit
    → is_unit unit keys ≡ true
is-unit unit keys same =
    and_from _ _ (eq-eqb _ _ (ap (λ (u : GroupUnit). u.conn.0) same))
    (eq-eqb _ _ (ap (λ (u : GroupUnit). u.group.0) same))

-- Without a unit that waited fewer wait.
pub fewer-wait : (units : UnitsData) (unit : GroupUnit) → Waits units unit
    → length (without_unit units unit).waiting < length units.waiting
fewer-wait units unit waits =
    let both = length-filter_both (is_unit unit) (λ a. not (is_unit unit a)) (λ a. refl)
    units.waiting in
    let some = Contains-some (filter (is_unit unit) units.waiting) waits.keys
    (Contains-filter (is_unit unit) units.waiting waits.keys waits.listed
    (is-unit unit waits.keys waits.unit_is)) in
    omega (arith, both, some)
