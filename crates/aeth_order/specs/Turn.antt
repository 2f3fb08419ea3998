-- Whose turn comes before whose, key by key. This project's own.
--
--   IsLess      a lesser number, or an equal one and what is said behind it
--   ComesBefore      a unit comes before another in a turn
--   IsNext      the unit whose turn is next
use Rattle.std.proofs.Common.{◌≡◌, ◌<◌, ◌⊎◌, ℕ, List, Option, Contains}
use Rattle.aeth_base.specs.declared.ids.Unit.{Unit as GroupUnit}
use Rattle.aeth_seats.specs.Places.{Place}
use Rattle.aeth_order.specs.{Order.seat_key, Units.UnitsData, declared.keys.UnitKeys.UnitKeys}

-- One number is less than another, or they are equal and the rest holds.
abbrev pub IsLess : ℕ → ℕ → Type 0 → Type 0
IsLess a b Rest = (a < b) ⊎ ((a ≡ b) × Rest)

-- A unit comes before another in a turn: one of which a core has a seat, then one with a greater
-- sum of needs, then with a lesser latency, then of an earlier connection, then of an earlier
-- group.
abbrev pub ComesBefore : List (Option Place) → UnitKeys → UnitKeys → Type 0
ComesBefore places a b =
    IsLess (seat_key places a) (seat_key places b)
    (IsLess b.need a.need
    (IsLess a.latency b.latency
    (IsLess a.unit.conn.0 b.unit.conn.0
    (a.unit.group.0 < b.unit.group.0))))

-- The unit waits for its turn, and none that waits comes before it.
pub record IsNext (units : UnitsData) (places : List (Option Place)) (unit : GroupUnit)
    : Type 0 where
  pub keys : UnitKeys
  pub unit_is : keys.unit ≡ unit
  pub waits : Contains units.waiting keys
  pub first : (other : UnitKeys) → Contains units.waiting other → ComesBefore places other keys → ⊥
