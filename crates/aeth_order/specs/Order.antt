-- The order in which units take their turns.
--
--   is_seated, seat_key      whether a core has a seat, and a unit a core with one
--   unit_order, turn_order      the comparison of two units, without the seats and with them
--   earlier, first_by      the first of a list of units
-- This project's own.
use Rattle.std.proofs.Common.{ℕ, ◌||◌, Bool, List, Option, Some, None, fold, is_some, if◌then◌else◌}
use Rattle.std.specs.Ordering.{flip_args, is_lt, nat_cmp, on, then_cmp}
use Rattle.std.specs.declared.cmp.Ordering.{Ordering}
use Rattle.aeth_seats.specs.Places.{Place, seat_of}
use Rattle.aeth_order.specs.declared.keys.UnitKeys.{UnitKeys}

-- Whether a core has a seat.
abbrev pub is_seated : List (Option Place) → ℕ → Bool
is_seated places core = is_some (seat_of places core)

-- 0 for a unit of which a core has a seat, 1 for one of which none has.
abbrev pub seat_key : List (Option Place) → UnitKeys → ℕ
seat_key places a = if is_seated places a.from.0 || is_seated places a.to.0 then 0 else 1

-- The comparison of units by all that doesn't change: the greater sum of needs comes first, then the
-- lesser latency, the earlier connection, and the earlier group.
abbrev pub unit_order : UnitKeys → UnitKeys → Ordering
unit_order =
    then_cmp (on (λ (a : UnitKeys). a.need) (flip_args nat_cmp))
    (then_cmp (on (λ (a : UnitKeys). a.latency) nat_cmp)
    (then_cmp (on (λ (a : UnitKeys). a.unit.conn.0) nat_cmp)
    (on (λ (a : UnitKeys). a.unit.group.0) nat_cmp)))

-- The comparison of units in a turn: one of which a core has a seat comes before one of which none
-- has, and units that are alike in this are in their own order.
abbrev pub turn_order : List (Option Place) → UnitKeys → UnitKeys → Ordering
turn_order places = then_cmp (on (seat_key places) nat_cmp) unit_order

-- The earlier of what was first, if anything, and one more.
abbrev pub earlier : (UnitKeys → UnitKeys → Ordering) → Option UnitKeys → UnitKeys → Option UnitKeys
earlier order None b = Some b
earlier order (Some a) b = Some (if is_lt (order b a) then b else a)

-- The first of a list of units, if it has one.
abbrev pub first_by : (UnitKeys → UnitKeys → Ordering) → List UnitKeys → Option UnitKeys
first_by order units = fold (earlier order) None units
