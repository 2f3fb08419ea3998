-- The allocation: a turn for each unit, and then a plan of what was reserved, with the refusals. After
-- UMARS (2005); the order of turns, the prices and the ties are this project's own.
--
-- It is a function and not a relation: what a command prints is a function of its files, and rests on
-- this one. Each turn has one outcome since two first candidates are equal, so nothing is lost.
--
--   first_state      before the first turn
--   after_turns, last_state      after so many turns, and after the last
--   grants_for, in_order      grants in the order of a plan
--   OutcomeData, outcome_of, allocation      the plan and the refusals
use Rattle.std.proofs.Common.{ℕ, zero, suc, ◌++◌, List, [], filter, length}
use Rattle.std.specs.List.{flat_map}
use Rattle.aeth_base.specs.declared.ids.Side.TheVariants.{Fwd, Back}
use Rattle.aeth_base.specs.declared.ids.Unit.{Unit as GroupUnit}
use Rattle.aeth_chip.specs.Chip.{ChipData}
use Rattle.aeth_app.specs.App.{AppData}
use Rattle.aeth_group.specs.{Members.GroupsData, Members.units_of, declared.grant.Grant.Grant}
use Rattle.aeth_book.specs.Book.{empty_book}
use Rattle.aeth_seats.specs.First.{first_seats}
use Rattle.aeth_order.specs.Units.{first_units}
use Rattle.aeth_plan.specs.{Plan.PlanData, Making.seated_cores, UnitGrants.is_for}
use Rattle.aeth_alloc.specs.{Channels.Design, Turns.State, Turns.after_turn}
use Rattle.aeth_alloc.specs.{declared.outcome.Refused.Refused}

-- Before the first turn: no grant, the fixed cores on their seats, all units wait, none is refused.
abbrev pub first_state : Design → GroupsData → State
first_state design groups = record {
  reserved = record {
    book = empty_book design.chip groups;
    seats = first_seats design.chip design.app;
  };
  units = first_units design.app groups;
  refused = [];
}

-- The state after so many turns, which count from 1.
unfoldable pub after_turns : Design → GroupsData → ℕ → State
after_turns design groups zero = first_state design groups
after_turns design groups (suc turns) =
    after_turn design (suc turns) (after_turns design groups turns)

-- The state after the last turn: each unit has one.
abbrev pub last_state : Design → GroupsData → State
last_state design groups = after_turns design groups (length (units_of groups))

-- Of some grants those for a unit, `fwd` before `back`.
abbrev pub grants_for : List Grant → GroupUnit → List Grant
grants_for grants unit = filter (is_for unit Fwd) grants ++ filter (is_for unit Back) grants

-- Grants in the order of a plan: that of the units, by connections and groups, and of their sides.
abbrev pub in_order : GroupsData → List Grant → List Grant
in_order groups grants = flat_map (grants_for grants) (units_of groups)

-- What an allocation comes to: a plan, and the refused units in the order of their turns.
pub record OutcomeData : Type 0 where
  pub plan : PlanData
  pub refused : List Refused

-- What a state comes to: the chip's table size, the seated cores and the grants, each in a plan's order,
-- and the refusals.
abbrev pub outcome_of : ChipData → GroupsData → State → OutcomeData
outcome_of chip groups state = record {
  plan = record {
    slots = chip.slots;
    seats = seated_cores state.reserved.seats.places;
    grants = in_order groups state.reserved.book.grants;
  };
  refused = state.refused;
}

-- The allocation of a chip, an application and its groups, where links cost what a table says.
unfoldable pub allocation : ChipData → AppData → GroupsData → List ℕ → OutcomeData
allocation chip app groups prices =
    outcome_of chip groups
    (last_state (record { chip = chip; app = app; prices = prices }) groups)
