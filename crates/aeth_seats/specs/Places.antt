-- Who sits where: cores on the seats of network interfaces.
--
--   Place, seat_of      a seat, and that of a core
--   sits_on, is_taken, taken_seats      which seats are taken
--   free_count, has_free, lowest_free      the free seats of an interface
--   placed, taken_back      a core takes the lowest free seat of an interface, or gives its seat back
-- Cores are placed as the consequence of the paths of their channels: after UMARS (2005). Seats:
-- this project's own.
use Rattle.std.proofs.Common.{ℕ, ◌==◌, ◌&&◌, not, Bool, false, List, map, position, count_by}
use Rattle.std.proofs.Common.{slice_get, slice_set, Option, Some, None, unwrap_or}
use Rattle.std.specs.List.{list_any, range_with_len}
use Rattle.aeth_base.specs.declared.ids.NiId.{NiId}
use Rattle.aeth_app.specs.Limits.{seats_per_ni}

-- A seat: a network interface, and which of its seats, counted from 0.
abbrev pub Place : Type 0
Place = NiId × ℕ

-- The seat of a core, if it has one. The list has an entry for each core, in file order.
abbrev pub seat_of : List (Option Place) → ℕ → Option Place
seat_of places core = unwrap_or (slice_get places core) None

-- Whether a core with this seat, if any, sits on a seat of an interface.
abbrev pub sits_on : ℕ → ℕ → Option Place → Bool
sits_on ni seat None = false
sits_on ni seat (Some place) = place.0.0 == ni && place.1 == seat

-- Whether some core sits on a seat of an interface.
abbrev pub is_taken : List (Option Place) → ℕ → ℕ → Bool
is_taken places ni seat = list_any (sits_on ni seat) places

-- For each seat of an interface whether it is taken.
unfoldable pub taken_seats : List (Option Place) → ℕ → List Bool
taken_seats places ni = map (is_taken places ni) (range_with_len 0 seats_per_ni)

-- How many seats of an interface are free.
abbrev pub free_count : List (Option Place) → ℕ → ℕ
free_count places ni = count_by not (taken_seats places ni)

-- Whether an interface has a free seat.
abbrev pub has_free : List (Option Place) → ℕ → Bool
has_free places ni = list_any not (taken_seats places ni)

-- The lowest free seat of an interface, if it has one.
abbrev pub lowest_free : List (Option Place) → ℕ → Option ℕ
lowest_free places ni = position not (taken_seats places ni)

-- The core sits on this seat of the interface, if there is one.
abbrev pub placed_on : List (Option Place) → ℕ → NiId → Option ℕ → List (Option Place)
placed_on places core ni None = places
placed_on places core ni (Some seat) = slice_set places core (Some (ni, seat))

-- The core takes the lowest free seat of the interface, if it has one.
abbrev pub placed : List (Option Place) → ℕ → NiId → List (Option Place)
placed places core ni = placed_on places core ni (lowest_free places ni.0)

-- The core gives its seat back.
abbrev pub taken_back : List (Option Place) → ℕ → List (Option Place)
taken_back places core = slice_set places core None
