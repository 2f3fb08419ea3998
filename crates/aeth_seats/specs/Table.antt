-- The table of taken seats behind seats: the seats of each interface stand together.
-- This project's own.
use Rattle.std.proofs.Common.{◌≡◌, ◌≢◌, ◌<◌, ◌≤◌, ℕ, ◌+◌, ◌*◌, Bool, false, List, Option, Some}
use Rattle.std.proofs.Common.{length, slice_get}
use Rattle.aeth_chip.specs.Limits.{max_nis}
use Rattle.aeth_app.specs.Limits.{max_cores, seats_per_ni}
use Rattle.aeth_seats.specs.Places.{Place, is_taken, seat_of, sits_on}

-- The number of network interfaces, and for each core its seat, if it has one.
pub record TableData : Type 0 where
  pub nis : ℕ
  pub places : List (Option Place)

-- The entry of a seat in the table.
abbrev pub entry_of : ℕ → ℕ → ℕ
entry_of ni seat = seats_per_ni * ni + seat

-- The table says of each seat of each interface whether it is taken.
pub record IsTakenTable (nis : ℕ) (places : List (Option Place)) (taken : List Bool) : Type 0 where
  pub size : length taken ≡ seats_per_ni * nis
  pub each : (ni seat : ℕ) → ni < nis → seat < seats_per_ni
      → slice_get taken (entry_of ni seat) ≡ Some (is_taken places ni seat)

-- There are few enough interfaces and cores.
pub record AreFew (table : TableData) : Type 0 where
  pub nis : table.nis ≤ max_nis
  pub cores : length table.places ≤ max_cores

-- A seat is one of an interface of the chip, and no other core than this one sits there.
pub record IsHeldAlone (table : TableData) (core : ℕ) (place : Place) : Type 0 where
  pub ni : place.0.0 < table.nis
  pub seat : place.1 < seats_per_ni
  pub alone : (other : ℕ) → other ≢ core
      → sits_on place.0.0 place.1 (seat_of table.places other) ≡ false
