-- Where a plan seats cores. Seats: after UMARS (2005), which places cores on network interfaces.
--
--   is_one_seat      whether two lines seat cores on one seat
--   seat_place, HasMarks      the places of seats in a table
--   AreSeatedAt, seat_line      a table of the interfaces of cores' seats; the line of a core's
--   is_misseated, first_misseated      cores that are fixed to an interface and not seated there
use Rattle.std.proofs.Common.{◌≡◌, ◌+◌, ◌*◌, ◌==◌, ◌&&◌, ℕ, Bool, true, false, not, List, [], ◌∷◌}
use Rattle.std.proofs.Common.{Option, Some, None, Contains, slice_get, unwrap_or, if◌then◌else◌}
use Rattle.aeth_base.specs.declared.ids.{CoreId.CoreId, NiId.NiId}
use Rattle.aeth_chip.specs.Index.{HasEntries}
use Rattle.aeth_app.specs.{App.is_ni, Limits.seats_per_ni, declared.connection.Core.Core}
use Rattle.aeth_group.specs.declared.grant.SeatLine.{SeatLine}
use Rattle.aeth_plan.specs.{Layout.first_seat_line, Seated.ni_of}
use Rattle.aeth_check.specs.Firsts.{first_line}

-- Whether two lines seat cores on one seat.
abbrev pub is_one_seat : SeatLine → SeatLine → Bool
is_one_seat a b = a.ni.0 == b.ni.0 && a.seat == b.seat

-- The place of a seat in a table of the seats of all interfaces.
abbrev pub seat_place : SeatLine → ℕ
seat_place line = line.ni.0 * seats_per_ni + line.seat

-- Each of these seats is marked at its place.
abbrev pub HasMarks : List SeatLine → List Bool → Type 0
HasMarks seats marks = (line : SeatLine) → Contains seats line
    → slice_get marks (seat_place line) ≡ Some true

-- A table has the interface of each core's seat, for so many cores.
abbrev pub AreSeatedAt : List SeatLine → ℕ → List (Option NiId) → Type 0
AreSeatedAt seats cores nis =
    HasEntries (λ core ni. ni ≡ ni_of seats (record { 0 = core })) cores nis

-- The line of a core's seat; 0 where the core isn't seated.
abbrev pub seat_line : List SeatLine → CoreId → ℕ
seat_line seats core =
    unwrap_or (first_line (λ line. line.core.0 == core.0) first_seat_line seats) 0

-- Whether a core that may be fixed to an interface has its seat elsewhere, or none.
abbrev pub is_elsewhere : Option NiId → Option NiId → Bool
is_elsewhere None seated = false
is_elsewhere (Some ni) seated = not (is_ni seated ni.0)

-- Whether a core is fixed to an interface and not seated there.
abbrev pub is_misseated : List SeatLine → CoreId → Core → Bool
is_misseated seats core one = is_elsewhere one.fixed (ni_of seats core)

-- The line of the first core that is fixed to an interface and not seated there. The first core of
-- the list has this number.
abbrev pub first_misseated : List SeatLine → ℕ → List Core → Option ℕ
first_misseated seats number [] = None
first_misseated seats number (one ∷ cores) =
    if is_misseated seats (record { 0 = number }) one
    then Some (seat_line seats (record { 0 = number }))
    else first_misseated seats (number + 1) cores
