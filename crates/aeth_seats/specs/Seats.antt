-- What the seats of a chip and an application are seen as, and what their readers tell.
--
--   SeatsData      seats
--   with_core, without_core      seats with a core more, and with one less
--   interfaces, candidates_of, crowded_of      the interfaces on which a core may come to sit
--   queue_of      the queue number of a connection at a core
--   IsSeats      what holds of all seats
-- Cores are placed as the consequence of the paths of their channels: after UMARS (2005). Seats and
-- queue numbers: this project's own.
use Rattle.std.proofs.Common.{◌≡◌, ◌<◌, ◌≤◌, ℕ, ◌+◌, ◌*◌, ◌==◌, ◌&&◌, Bool, List, [], ◌∷◌, length}
use Rattle.std.proofs.Common.{map, filter, slice_get, Option, Some, None, IfSome, IsSomeAnd, IsTrue}
use Rattle.std.proofs.Common.{if◌then◌else◌, is_none}
use Rattle.std.specs.List.{range_with_len}
use Rattle.aeth_base.specs.declared.ids.NiId.{NiId}
use Rattle.aeth_chip.specs.Limits.{max_nis}
use Rattle.aeth_app.specs.Limits.{max_core_connections, max_cores, seats_per_ni}
use Rattle.aeth_seats.specs.Places.{Place, free_count, has_free, placed, seat_of, sits_on}
use Rattle.aeth_seats.specs.Places.{taken_back}

-- Seats: the number of network interfaces; for each core in file order the interface to which it is
-- fixed, if it is; and for each core its seat, if it has one.
pub record SeatsData : Type 0 where
  pub nis : ℕ
  pub fixed : List (Option NiId)
  pub places : List (Option Place)

-- The seats with a core on the lowest free seat of an interface.
abbrev pub with_core : SeatsData → ℕ → NiId → SeatsData
with_core seats core ni = record {
  nis = seats.nis;
  fixed = seats.fixed;
  places = placed seats.places core ni;
}

-- The seats without a core.
abbrev pub without_core : SeatsData → ℕ → SeatsData
without_core seats core = record {
  nis = seats.nis;
  fixed = seats.fixed;
  places = taken_back seats.places core;
}

-- The interfaces that pass a test, ascending.
abbrev pub interfaces : ℕ → (ℕ → Bool) → List NiId
interfaces nis test = map (λ n. record { 0 = n }) (filter test (range_with_len 0 nis))

-- The interfaces of a core with this seat, if any: that of its seat, or each with a free seat.
abbrev pub interfaces_from : SeatsData → Option Place → List NiId
interfaces_from seats (Some place) = place.0 ∷ []
interfaces_from seats None = interfaces seats.nis (has_free seats.places)

-- The candidates for a core: its own interface, or each with a free seat.
abbrev pub candidates_of : SeatsData → ℕ → List NiId
candidates_of seats core = interfaces_from seats (seat_of seats.places core)

-- Whether an interface has one free seat and no more.
abbrev pub is_crowded : List (Option Place) → ℕ → Bool
is_crowded places ni = free_count places ni == 1

-- The interfaces with a seat for one of two cores and not for both, where neither has a seat; none
-- where one of them has one.
abbrev pub crowded_of : SeatsData → ℕ → ℕ → List NiId
crowded_of seats a b =
    if is_none (seat_of seats.places a) && is_none (seat_of seats.places b)
    then interfaces seats.nis (is_crowded seats.places) else []

-- The queue number of a connection at a core: the queues of each seat stand together, one for each
-- position.
abbrev pub queue_of : ℕ → ℕ → ℕ
queue_of seat position = max_core_connections * seat + position

-- What holds of all seats: there are so few interfaces and cores, no two cores sit on one seat, each
-- seat is one of an interface of the chip, and a fixed core sits on its interface.
pub record IsSeats (seats : SeatsData) : Type 0 where
  pub few_nis : seats.nis ≤ max_nis
  pub few : length seats.places ≤ max_cores
  pub cores : length seats.fixed ≡ length seats.places
  pub apart : (ni seat a b : ℕ) → IsTrue (sits_on ni seat (seat_of seats.places a))
      → IsTrue (sits_on ni seat (seat_of seats.places b)) → a ≡ b
  pub within : (core : ℕ) → IfSome (seat_of seats.places core) (λ place.
      (place.0.0 < seats.nis) × (place.1 < seats_per_ni))
  pub stay : (core : ℕ) (ni : NiId) → slice_get seats.fixed core ≡ Some (Some ni)
      → IsSomeAnd (seat_of seats.places core) (λ place. place.0 ≡ ni)
