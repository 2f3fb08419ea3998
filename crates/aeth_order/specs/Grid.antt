-- The table of units behind units: a place for each connection and each number that a group may have.
--
--   places, grid_place, unit_at, is_unit_at      the places of units
--   grid_of, marks_of, waits, waits_seated, nobody      the keys at all places, and which units wait
--   Falls, IsFound      lists in their own order, and the first that passes a test
--   IsPlaced, IsGrid, IsOrdered      what holds of the table, and of units beside it
--
-- This project's own.
use Rattle.std.proofs.Common.{◌≡◌, ◌<◌, ℕ, ◌+◌, ◌*◌, ◌/◌, ◌%◌, ◌==◌, ◌&&◌, Bool, true, false, List}
use Rattle.std.proofs.Common.{length, map, AllPairs, Contains, Option, Some, None, slice_get}
use Rattle.std.specs.{List.items_where_true, List.range_with_len, Ordering.is_lt}
use Rattle.aeth_base.specs.declared.ids.Unit.{Unit as GroupUnit}
use Rattle.aeth_app.specs.{App.AppData, App.is_marked, Limits.max_uses}
use Rattle.aeth_group.specs.Members.{GroupsData, is_member}
use Rattle.aeth_seats.specs.Places.{Place}
use Rattle.aeth_order.specs.{Order.seat_key, Order.unit_order, Units.keys_of}
use Rattle.aeth_order.specs.{declared.keys.UnitKeys.UnitKeys}

-- How many places there are for so many connections.
abbrev pub places : ℕ → ℕ
places connections = max_uses * connections

-- The place of a unit, and the unit of a place.
abbrev pub grid_place : GroupUnit → ℕ
grid_place unit = max_uses * unit.conn.0 + unit.group.0

abbrev pub unit_at : ℕ → GroupUnit
unit_at place = record {
  conn = record { 0 = place / max_uses };
  group = record { 0 = place % max_uses };
}

-- Whether the unit of a place is one.
abbrev pub is_unit_at : GroupsData → ℕ → Bool
is_unit_at groups place = is_member groups (place % max_uses) (place / max_uses)

-- The keys of all places, and for each whether its unit is one.
abbrev pub grid_of : AppData → List UnitKeys
grid_of app = map (λ p. keys_of app (unit_at p)) (range_with_len 0 (places (length app.connections)))

abbrev pub marks_of : GroupsData → List Bool
marks_of groups = map (is_unit_at groups) (range_with_len 0 (places groups.connections))

-- Whether a unit waits, by the marks, and whether it waits and has a core with a seat.
abbrev pub waits : List Bool → UnitKeys → Bool
waits marks a = is_marked marks (grid_place a.unit)

abbrev pub waits_seated : List Bool → List (Option Place) → UnitKeys → Bool
waits_seated marks places a = seat_key places a == 0 && waits marks a

-- A unit that stands for none.
abbrev pub nobody : UnitKeys
nobody = record {
  unit = record { conn = record { 0 = 0 }; group = record { 0 = 0 } };
  from = record { 0 = 0 };
  to = record { 0 = 0 };
  need = 0;
  latency = 0;
}

-- None of a list comes before one behind it by its own order: the first of all stands last.
abbrev pub Falls : List UnitKeys → Type 0
Falls order = AllPairs (λ a b. is_lt (unit_order a b) ≡ false) order

-- The first by its own order of those of a list that pass a test, or that none passes.
abbrev pub IsFound : (UnitKeys → Bool) → List UnitKeys → Option UnitKeys → Type 0
IsFound test order (Some m) = Contains order m × ((test m ≡ true) × ((a : UnitKeys)
    → Contains order a → test a ≡ true → is_lt (unit_order a m) ≡ false))
IsFound test order None = (a : UnitKeys) → Contains order a → test a ≡ false

-- What holds of a table of units: each place has its own unit.
pub record IsPlaced (place : ℕ) (a : UnitKeys) : Type 0 where
  pub unit : grid_place a.unit ≡ place
  pub group : a.unit.group.0 < max_uses

-- What holds of the table and the marks of the units that wait.
pub record IsGrid (grid : List UnitKeys) (marks : List Bool) : Type 0 where
  pub size : length marks ≡ length grid
  pub placed : (place : ℕ) (a : UnitKeys) → slice_get grid place ≡ Some a → IsPlaced place a

-- What holds of units beside the table, of which the first by its own order stands last: they are the
-- table's, and those that wait are among them.
pub record IsOrdered (grid : List UnitKeys) (marks : List Bool) (order : List UnitKeys) : Type 0 where
  pub table : IsGrid grid marks
  pub falls : Falls order
  pub units : (a : UnitKeys) → Contains order a → slice_get grid (grid_place a.unit) ≡ Some a
  pub waiting : (a : UnitKeys) → Contains (items_where_true marks grid) a → Contains order a
