-- The units of an application, and which of them wait for their turn.
--
--   keys_of, all_units      a unit with its keys, and all units of an application
--   units_without      units without one
--   UnitsData, first_units, without_unit      the units that wait: all, and without one
--   next_unit      the unit whose turn is next
-- This project's own.
use Rattle.std.proofs.Common.{ℕ, ◌+◌, ◌==◌, ◌&&◌, min, not, Bool, List, Option, Some, None, length}
use Rattle.std.proofs.Common.{map, filter, slice_get, option_map}
use Rattle.aeth_base.specs.declared.ids.Side.TheVariants.{Fwd, Back}
use Rattle.aeth_base.specs.declared.ids.Unit.{Unit as GroupUnit}
use Rattle.aeth_app.specs.{App.AppData, Rates.need_of, declared.connection.Connection.Connection}
use Rattle.aeth_group.specs.Members.{GroupsData, units_of}
use Rattle.aeth_seats.specs.Places.{Place}
use Rattle.aeth_order.specs.{Order.first_by, Order.turn_order, declared.keys.UnitKeys.UnitKeys}

-- Whether it is this unit.
abbrev pub is_unit : GroupUnit → UnitKeys → Bool
is_unit unit a = a.unit.conn.0 == unit.conn.0 && a.unit.group.0 == unit.group.0

-- A unit with its keys, by its connection, which may be missing.
abbrev pub keys_by : ℕ → GroupUnit → Option Connection → UnitKeys
keys_by slots unit (Some connection) = record {
  unit = unit;
  from = connection.from;
  to = connection.to;
  need = need_of slots connection Fwd + need_of slots connection Back;
  latency = min connection.fwd.latency connection.back.latency;
}
keys_by slots unit None = record {
  unit = unit;
  from = record { 0 = 0 };
  to = record { 0 = 0 };
  need = 0;
  latency = 0;
}

-- A unit of an application with its keys.
abbrev pub keys_of : AppData → GroupUnit → UnitKeys
keys_of app unit = keys_by app.slots unit (slice_get app.connections unit.conn.0)

-- All units of an application, in the order of connections and of groups.
unfoldable pub all_units : AppData → GroupsData → List UnitKeys
all_units app groups = map (keys_of app) (units_of groups)

-- Units without one.
abbrev pub units_without : GroupUnit → List UnitKeys → List UnitKeys
units_without unit units = filter (λ a. not (is_unit unit a)) units

-- Units: how many cores there are, and the units that wait for their turn.
pub record UnitsData : Type 0 where
  pub cores : ℕ
  pub waiting : List UnitKeys

-- All units wait.
abbrev pub first_units : AppData → GroupsData → UnitsData
first_units app groups = record { cores = length app.cores; waiting = all_units app groups }

-- A unit waits no more.
abbrev pub without_unit : UnitsData → GroupUnit → UnitsData
without_unit units unit = record {
  cores = units.cores;
  waiting = units_without unit units.waiting;
}

-- The unit whose turn is next, if one waits.
abbrev pub next_unit : UnitsData → List (Option Place) → Option GroupUnit
next_unit units places = option_map (λ a. a.unit) (first_by (turn_order places) units.waiting)
