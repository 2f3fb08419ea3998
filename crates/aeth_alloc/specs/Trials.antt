-- The tries of the channels for which units are refused, as trials of aeth_paths, from the words of the
-- allocation. This project's own.
--
--   reserved_for      what is reserved when a side of a unit is tried
--   refusal_in      the refusal of a turn
--   trial_for, trial_of      a channel's try, and that of a refusal
--   trial_in, trial_after, trials_of      the trial of a turn, of the turn after so many, and of all
--   earlier_count, GoesOn      how many grants of a trial were made before its turn; a later trial has these
--   refused_of      the refusal of which a trial tells
use Rattle.std.proofs.Common.{ℕ, ◌≡◌, ◌≤◌, ◌+◌, ◌-◌, take, List, Option, None, Some, length}
use Rattle.std.proofs.Common.{option_and_then, option_map, slice_get}
use Rattle.std.specs.List.{filter_map, range_with_len}
use Rattle.aeth_base.specs.declared.ids.Side.{Side, TheVariants.Fwd, TheVariants.Back}
use Rattle.aeth_base.specs.declared.ids.Unit.{Unit as GroupUnit}
use Rattle.aeth_chip.specs.Chip.{ChipData}
use Rattle.aeth_app.specs.{App.AppData, declared.connection.Connection.Connection}
use Rattle.aeth_app.specs.{Connections.receiver, Connections.sender}
use Rattle.aeth_group.specs.Members.{GroupsData, units_of}
use Rattle.aeth_order.specs.Units.{next_unit}
use Rattle.aeth_seats.specs.Seats.{candidates_of, crowded_of}
use Rattle.aeth_paths.specs.Trials.{TrialData}
use Rattle.aeth_alloc.specs.{Allocation.after_turns, Channels.Design, Channels.Reserved}
use Rattle.aeth_alloc.specs.{Channels.request_of, Channels.tried, Turns.State, Turns.unit_tried}
use Rattle.aeth_alloc.specs.{declared.outcome.Refused.Refused}

-- What is reserved when a side of a unit is tried, if it comes to that: for `fwd` what was reserved
-- before the turn, for `back` that and the unit's `fwd` channel.
abbrev pub reserved_for : Design → Reserved → GroupUnit → Side → Option Reserved
reserved_for design before unit Fwd = Some before
reserved_for design before unit Back = tried design before unit Fwd

-- The refusal of a turn by the unit whose turn it is: there is one if the unit is refused.
abbrev pub refusal_by : Design → ℕ → State → Option GroupUnit → Option Refused
refusal_by design turn state None = None
refusal_by design turn state (Some unit) =
    option_map (λ side. record { unit = unit; side = side; turn = turn })
    (unit_tried design state.reserved unit).refused

-- The refusal of a turn, if there is one.
abbrev pub refusal_in : Design → ℕ → State → Option Refused
refusal_in design turn state =
    refusal_by design turn state (next_unit state.units state.reserved.seats.places)

-- How many grants of its own unit stand behind those that were made before its turn.
abbrev pub own_count : Side → ℕ
own_count Fwd = 0
own_count Back = 1

-- The try of a refused channel beside what is reserved then.
abbrev pub trial_for : Design → Refused → Connection → Reserved → TrialData
trial_for design refused connection reserved = record {
  ask = request_of design.app connection refused.unit refused.side;
  turn = refused.turn;
  grants = reserved.book.grants;
  from = candidates_of reserved.seats (sender connection refused.side).0;
  to = candidates_of reserved.seats (receiver connection refused.side).0;
  crowded = crowded_of reserved.seats (sender connection refused.side).0
      (receiver connection refused.side).0;
}

-- The try of a refusal, from what was reserved before its turn.
abbrev pub trial_of : Design → Reserved → Refused → Option TrialData
trial_of design before refused = option_and_then (λ connection.
    option_map (trial_for design refused connection)
    (reserved_for design before refused.unit refused.side))
    (slice_get design.app.connections refused.unit.conn.0)

-- The try of a turn, if its unit is refused.
abbrev pub trial_in : Design → ℕ → State → Option TrialData
trial_in design turn state =
    option_and_then (trial_of design state.reserved) (refusal_in design turn state)

-- That of the turn after so many.
abbrev pub trial_after : Design → GroupsData → ℕ → Option TrialData
trial_after design groups turns =
    trial_in design (turns + 1) (after_turns design groups turns)

-- The tries of all refusals of an allocation, in the order of turns.
unfoldable pub trials_of : ChipData → AppData → GroupsData → List ℕ → List TrialData
trials_of chip app groups prices =
    filter_map (trial_after (record { chip = chip; app = app; prices = prices }) groups)
    (range_with_len 0 (length (units_of groups)))

-- How many of its grants were made before the turn of its unit: all, but for the `fwd` grant of the unit
-- where the `back` channel was tried.
abbrev pub earlier_count : TrialData → ℕ
earlier_count trial = length trial.grants - own_count trial.ask.side

-- A trial that comes later than another: the grants before the turn of the other stand first in it.
pub record GoesOn (trial later : TrialData) : Type 0 where
  pub more : earlier_count trial ≤ earlier_count later
  pub same : take (earlier_count trial) later.grants ≡ take (earlier_count trial) trial.grants

-- The refusal of which a trial tells.
abbrev pub refused_of : TrialData → Refused
refused_of trial = record { unit = trial.ask.unit; side = trial.ask.side; turn = trial.turn }
