-- The seats before any path is chosen.
--
--   seated_from, first_places, first_seats      the fixed cores take seats, one after the other
--   fixed_count, first_seat      the same of one core by itself
--   AreKnown      cores are fixed to interfaces of the chip
-- This project's own.
use Rattle.std.proofs.Common.{◌≡◌, ◌<◌, ℕ, ◌+◌, List, [], ◌∷◌, length, map, take, replicate}
use Rattle.std.proofs.Common.{count_by, slice_get, Option, Some, None, unwrap_or}
use Rattle.aeth_base.specs.declared.ids.NiId.{NiId}
use Rattle.aeth_chip.specs.Chip.{ChipData}
use Rattle.aeth_app.specs.App.{AppData, is_ni}
use Rattle.aeth_seats.specs.{Places.Place, Places.placed, Seats.SeatsData}

-- A core takes the lowest free seat of the interface to which it is fixed, if it is.
abbrev pub seated : List (Option Place) → ℕ → Option NiId → List (Option Place)
seated places core None = places
seated places core (Some ni) = placed places core ni

-- The cores from this number on, which are fixed to these interfaces, are seated one after the other.
abbrev pub seated_from : List (Option Place) → ℕ → List (Option NiId) → List (Option Place)
seated_from places core [] = places
seated_from places core (ni ∷ fixed) = seated_from (seated places core ni) (core + 1) fixed

-- Where the cores sit once the fixed ones are seated, in file order.
unfoldable pub first_places : List (Option NiId) → List (Option Place)
first_places fixed = seated_from (replicate (length fixed) None) 0 fixed

-- The interface to which each core is fixed, if it is, in file order.
abbrev pub fixed_of : AppData → List (Option NiId)
fixed_of app = map (λ core. core.fixed) app.cores

-- The seats before any path is chosen.
abbrev pub first_seats : ChipData → AppData → SeatsData
first_seats chip app = record {
  nis = length chip.nis;
  fixed = fixed_of app;
  places = first_places (fixed_of app);
}

-- How many cores are fixed to an interface.
abbrev pub fixed_count : List (Option NiId) → ℕ → ℕ
fixed_count fixed ni = count_by (λ to. is_ni to ni) fixed

-- The seat of a core behind others: as many seats of its interface are below it as cores before it are
-- fixed there. A core that isn't fixed has none.
abbrev pub seat_behind : List (Option NiId) → Option NiId → Option Place
seat_behind before None = None
seat_behind before (Some ni) = Some (ni, fixed_count before ni.0)

-- The first seat of a core, by itself.
abbrev pub first_seat : List (Option NiId) → ℕ → Option Place
first_seat fixed core = seat_behind (take core fixed) (unwrap_or (slice_get fixed core) None)

-- The interfaces to which cores are fixed are below a number.
abbrev pub AreKnown : ℕ → List (Option NiId) → Type 0
AreKnown nis fixed = (core : ℕ) (ni : NiId) → slice_get fixed core ≡ Some (Some ni) → ni.0 < nis
