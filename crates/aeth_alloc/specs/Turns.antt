-- Turns: each is that of the next unit, whose two channels are granted both or not at all. After
-- UMARS (2005), where mapping, paths and slots are one step; turns, refusals and their order are this
-- project's own.
--
--   UnitTry      what comes of a unit
--   after_back, after_fwd, unit_tried      a unit's channels, `fwd` and then `back`
--   State      what was reserved, the units that wait, and the refusals so far
--   refusals_of      the refusal of a unit, if it is refused
--   after_turn      the state after one turn more
use Rattle.std.proofs.Common.{ℕ, ◌++◌, List, [], ◌∷◌, Option, None, Some}
use Rattle.aeth_base.specs.declared.ids.Side.{Side, TheVariants.Fwd, TheVariants.Back}
use Rattle.aeth_base.specs.declared.ids.Unit.{Unit as GroupUnit}
use Rattle.aeth_order.specs.Units.{UnitsData, next_unit, without_unit}
use Rattle.aeth_alloc.specs.Channels.{Design, Reserved, tried}
use Rattle.aeth_alloc.specs.declared.outcome.Refused.{Refused}

-- What comes of a unit: what is reserved after it, and the side for which it is refused, if it is.
pub record UnitTry : Type 0 where
  pub reserved : Reserved
  pub refused : Option Side

-- After the `back` channel was tried: where it had no candidate, all is as it was before the unit.
abbrev pub after_back : Reserved → Option Reserved → UnitTry
after_back before None = record { reserved = before; refused = Some Back }
after_back before (Some both) = record { reserved = both; refused = None }

-- After the `fwd` channel was tried: where it was granted, the `back` channel is tried beside its
-- grant and its seats.
abbrev pub after_fwd : Design → Reserved → GroupUnit → Option Reserved → UnitTry
after_fwd design before unit None = record { reserved = before; refused = Some Fwd }
after_fwd design before unit (Some fwd) = after_back before (tried design fwd unit Back)

-- What comes of a unit: its `fwd` channel is tried, then its `back` channel.
abbrev pub unit_tried : Design → Reserved → GroupUnit → UnitTry
unit_tried design before unit = after_fwd design before unit (tried design before unit Fwd)

-- Between two turns: what was reserved, the units that wait for their turn, and the refusals so far.
pub record State : Type 0 where
  pub reserved : Reserved
  pub units : UnitsData
  pub refused : List Refused

-- The refusal of a unit in a turn, if it is refused.
abbrev pub refusals_of : GroupUnit → ℕ → Option Side → List Refused
refusals_of unit turn None = []
refusals_of unit turn (Some side) = record { unit = unit; side = side; turn = turn } ∷ []

-- The state after the turn of a unit, by what came of the unit.
abbrev pub with_unit : State → GroupUnit → ℕ → UnitTry → State
with_unit state unit turn unit_try = record {
  reserved = unit_try.reserved;
  units = without_unit state.units unit;
  refused = state.refused ++ refusals_of unit turn unit_try.refused;
}

-- The state after a turn, by the unit whose turn it is; it stays where no unit waits.
abbrev pub after_turn_of : Design → ℕ → State → Option GroupUnit → State
after_turn_of design turn state None = state
after_turn_of design turn state (Some unit) =
    with_unit state unit turn (unit_tried design state.reserved unit)

-- The state after a turn: the turn is that of the next unit.
unfoldable pub after_turn : Design → ℕ → State → State
after_turn design turn state =
    after_turn_of design turn state (next_unit state.units state.reserved.seats.places)
