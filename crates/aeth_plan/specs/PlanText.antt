-- The plan of a text, or the first rule that the text breaks; and the text of a plan.
--
--   plan_in, plan_of      the plan of a text
--   seat_words, grant_words, plan_words, plan_text      the text of a plan
--   HasSeat, HasConnection      what a line has to name to be printed
-- This project's own.
use Rattle.std.proofs.Common.{ℕ, ◌<◌, ◌==◌, List, length, map, Result, Ok}
use Rattle.aeth_base.specs.Faults.{BrokenRule}
use Rattle.aeth_document.specs.Chain.{◌>>=◌}
use Rattle.aeth_text.specs.Order.{misplaced}
use Rattle.aeth_chip.specs.Chip.{ChipData}
use Rattle.aeth_app.specs.App.{AppData}
use Rattle.aeth_group.specs.Members.{GroupsData}
use Rattle.aeth_group.specs.declared.grant.{Grant.Grant, SeatLine.SeatLine}
use Rattle.aeth_plan.specs.{declared.text.SeatText.SeatText, Layout.first_grant_line}
use Rattle.aeth_plan.specs.{Layout.first_seat_line, Lines.GrantWords, Lines.PlanWords}
use Rattle.aeth_plan.specs.{Lines.text_of, Plan.PlanData, Plan.connection_names, Plan.core_names}
use Rattle.aeth_plan.specs.{Plan.grant_before, Plan.name_at, Plan.seat_before, Rules.each}
use Rattle.aeth_plan.specs.{Rules.holds, Rules.known_grant, Rules.known_seat, Rules.ordered}
use Rattle.aeth_plan.specs.{Spelling.text_from}

-- The plan of what the lines say: unknown fields line by line, then lines that are out of order.
unfoldable pub plan_in : ChipData → AppData → GroupsData → PlanWords → Result PlanData BrokenRule
plan_in chip app groups text = do
  slots ← holds 1 3 (text.slots == chip.slots)
  seats ← each (known_seat chip app) first_seat_line text.seats
  grants ← each (known_grant chip app groups) (first_grant_line text.seats) text.grants
  seat_order ← ordered (misplaced seat_before first_seat_line seats)
  grant_order ← ordered (misplaced grant_before (first_grant_line text.seats) grants)
  Ok (record { slots = text.slots; seats = seats; grants = grants })

-- The plan of a text, or the first rule that the text breaks.
unfoldable pub plan_of : ChipData → AppData → GroupsData → List ℕ → Result PlanData BrokenRule
plan_of chip app groups bytes = text_of bytes >>= plan_in chip app groups

-- ---- The text

-- What a seat's line says.
abbrev pub seat_words : ChipData → AppData → SeatLine → SeatText
seat_words chip app seat = record {
  core = name_at (core_names app) seat.core.0;
  ni = name_at chip.nis seat.ni.0;
  seat = seat.seat;
}

-- What a grant's line says.
abbrev pub grant_words : AppData → Grant → GrantWords
grant_words app grant = record {
  conn = name_at (connection_names app) grant.unit.conn.0;
  group = grant.unit.group.0;
  side = grant.side;
  links = grant.path;
  starts = grant.slots.slots;
}

-- What the lines of a plan say.
abbrev pub plan_words : ChipData → AppData → PlanData → PlanWords
plan_words chip app plan = record {
  slots = plan.slots;
  seats = map (seat_words chip app) plan.seats;
  grants = map (grant_words app) plan.grants;
}

-- The text of a plan.
unfoldable pub plan_text : ChipData → AppData → PlanData → List ℕ
plan_text chip app plan = text_from (plan_words chip app plan)

-- A seat line names a core and an interface that there are.
pub record HasSeat (chip : ChipData) (app : AppData) (seat : SeatLine) : Type 0 where
  pub core : seat.core.0 < length app.cores
  pub ni : seat.ni.0 < length chip.nis

-- A grant names a connection that there is.
abbrev pub HasConnection : AppData → Grant → Type 0
HasConnection app grant = grant.unit.conn.0 < length app.connections
