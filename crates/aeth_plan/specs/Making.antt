-- The plan that is made of seats and grants.
--
--   line_of_core, seated_cores      the lines of the cores that have a seat
--   AreApart      two grants aren't for one side of one unit
--   IsPlanWith      what the plan is that is made
-- This project's own.
use Rattle.std.proofs.Common.{◌≡◌, ◌≢◌, ℕ, List, length, Option, Some, None}
use Rattle.std.specs.List.{filter_map, range_with_len, Sorted.IsPermutation}
use Rattle.aeth_chip.specs.Chip.{ChipData}
use Rattle.aeth_seats.specs.{Places.Place, Places.seat_of, Seats.SeatsData}
use Rattle.aeth_group.specs.declared.grant.{Grant.Grant, SeatLine.SeatLine}
use Rattle.aeth_plan.specs.Plan.{IsPlan, PlanData}

-- The line of a core with this seat, if it has one.
abbrev pub line_of_core : ℕ → Option Place → Option SeatLine
line_of_core core None = None
line_of_core core (Some place) =
    Some (record { core = record { 0 = core }; ni = place.0; seat = place.1 })

-- The lines of the cores that have a seat, in the order of the cores.
abbrev pub seated_cores : List (Option Place) → List SeatLine
seated_cores places = filter_map (λ core. line_of_core core (seat_of places core))
    (range_with_len 0 (length places))

-- Two grants aren't for one side of one unit.
abbrev pub AreApart : Grant → Grant → Type 0
AreApart a b = a.unit ≡ b.unit → a.side ≢ b.side

-- The plan for a chip that is made of seats and grants: the seated cores and the grants, in order.
pub record IsPlanWith (chip : ChipData) (seated : SeatsData) (granted : List Grant)
    (plan : PlanData) : Type 0 where
  pub slots : plan.slots ≡ chip.slots
  pub seats : plan.seats ≡ seated_cores seated.places
  pub grants : IsPermutation granted plan.grants
  pub in_order : IsPlan plan
