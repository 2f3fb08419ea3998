-- Fixed cores are seated one after the other: what stays, and what holds then.
use Rattle.std.proofs.Common.{◌≡◌, ◌≢◌, ◌<◌, ◌≤◌, ◌∙◌, ◌+◌, ℕ, suc, List, [], ◌∷◌, length, Some}
use Rattle.std.proofs.Common.{None, Option, refl, sym, ap, arith, slice_get, subst, replicate}
use Rattle.std.proofs.Common.{length-set, drop}
use Rattle.std.proofs.lemmas.List.{drop_all}
use Rattle.aeth_base.{specs.declared.ids.NiId.NiId, proofs.Lists.drop-slice_get}
use Rattle.aeth_seats.proofs.TakenLemmas.{length-nothing, none-there, seat_of-set_other}
use Rattle.aeth_seats.proofs.SeatLemmas.{seats-with_core}
use Rattle.aeth_seats.specs.{Table.TableData, First.first_places, First.seated, First.seated_from}
use Rattle.aeth_seats.specs.{Places.Place, Places.lowest_free, Places.placed, Places.placed_on}
use Rattle.aeth_seats.specs.{Places.seat_of, Seats.IsSeats, Seats.SeatsData, Seats.with_core}

-- A core that is placed changes no other core's seat.
pub placed_on-other : (places : List (Option Place)) (core : ℕ) (ni : NiId) (found : Option ℕ)
    (other : ℕ) → other ≢ core
    → seat_of (placed_on places core ni found) other ≡ seat_of places other
placed_on-other places core ni None other apart = refl
placed_on-other places core ni (Some seat) other apart =
    seat_of-set_other places core other (Some (ni, seat)) apart

-- Nor does it change how many cores there are.
pub length-placed_on : (places : List (Option Place)) (core : ℕ) (ni : NiId) (found : Option ℕ)
    → length (placed_on places core ni found) ≡ length places
length-placed_on places core ni None = refl
length-placed_on places core ni (Some seat) = length-set places core (Some (ni, seat))

-- The same of a core that is fixed, if it is.
pub length-seated : (places : List (Option Place)) (core : ℕ) (to : Option NiId)
    → length (seated places core to) ≡ length places
length-seated places core None = refl
length-seated places core (Some ni) =
    length-placed_on places core ni (lowest_free places ni.0)

pub seated-other : (places : List (Option Place)) (core : ℕ) (to : Option NiId) (other : ℕ)
    → other ≢ core → seat_of (seated places core to) other ≡ seat_of places other
seated-other places core None other apart = refl
seated-other places core (Some ni) other apart =
    placed_on-other places core ni (lowest_free places ni.0) other apart

-- Cores before those that are seated keep their seats.
pub seated_from-earlier : (places : List (Option Place)) (core : ℕ) (fixed : List (Option NiId))
    (other : ℕ) → other < core → seat_of (seated_from places core fixed) other
    ≡ seat_of places other
seated_from-earlier places core [] other before = refl
seated_from-earlier places core (None ∷ fixed) other before =
    seated_from-earlier places (core + 1) fixed other (omega arith)
seated_from-earlier places core (Some ni ∷ fixed) other before =
    let apart : other ≢ core = omega arith in
    seated_from-earlier (placed places core ni) (core + 1) fixed other (omega arith)
    ∙ placed_on-other places core ni (lowest_free places ni.0) other apart

-- Seats stay seats while fixed cores that have none are seated.
pub seats-seated_from : (seats : SeatsData) (core : ℕ) (fixed : List (Option NiId)) → IsSeats seats
    → core + length fixed ≡ length seats.places
    → ((c : ℕ) → core ≤ c → seat_of seats.places c ≡ None)
    → ((i : ℕ) (ni : NiId) → slice_get fixed i ≡ Some (Some ni) → ni.0 < seats.nis)
    → IsSeats (record {
      nis = seats.nis;
      fixed = seats.fixed;
      places = seated_from seats.places core fixed;
    })
seats-seated_from seats core [] is_seats size later on = is_seats
seats-seated_from seats core (None ∷ fixed) is_seats size later on =
    seats-seated_from seats (core + 1) fixed is_seats (omega arith)
    (λ c from. later c (omega arith)) (λ i. on (suc i))
seats-seated_from seats core (Some ni ∷ fixed) is_seats size later on =
    let found : Option ℕ = lowest_free seats.places ni.0 in
    let same = length-placed_on seats.places core ni found in
    seats-seated_from (with_core seats core ni) (core + 1) fixed
    (seats-with_core seats core ni is_seats (omega arith) (later core (omega arith))
    (on 0 ni refl)) (omega arith)
    (λ c from. let apart : c ≢ core = omega arith in
    placed_on-other seats.places core ni found c apart ∙ later c (omega arith))
    (λ i. on (suc i))

-- While the first seats are made: the cores up to one are seated, and those to come have no seat.
pub record IsSeating (nis : ℕ) (fixed : List (Option NiId)) (table : TableData) (core : ℕ)
    : Type 0 where
  pub on_chip : table.nis ≡ nis
  pub size : length table.places ≡ length fixed
  pub later : (c : ℕ) → core ≤ c → seat_of table.places c ≡ None
  pub seated : seated_from table.places core (drop core fixed) ≡ first_places fixed

-- One more core was seated.
pub seating-more : (nis : ℕ) (fixed : List (Option NiId)) (table : TableData) (core : ℕ)
    (to : Option NiId) → IsSeating nis fixed table core → slice_get fixed core ≡ Some to
    → IsSeating nis fixed (record { nis = table.nis; places = seated table.places core to })
    (core + 1)
seating-more nis fixed table core to so_far at = record {
  on_chip = so_far.on_chip;
  size = length-seated table.places core to ∙ so_far.size;
  later = λ c from. let apart : c ≢ core = omega arith in
      seated-other table.places core to c apart ∙ so_far.later c (omega arith);
  seated = sym (ap (seated_from table.places core) (drop-slice_get fixed core to at))
      ∙ so_far.seated;
}

-- Nobody is seated yet.
pub seating-none : (nis : ℕ) (fixed : List (Option NiId)) (table : TableData)
    → table ≡ record { nis = nis; places = replicate (length fixed) None }
    → IsSeating nis fixed table 0
unfolding first_places
seating-none nis fixed table is = subst (λ t. IsSeating nis fixed t 0) (sym is) (record {
  on_chip = refl;
  size = length-nothing Place (length fixed);
  later = λ c from. none-there Place (length fixed) c;
  seated = refl;
})

-- All cores are seated.
pub seating-all : (nis : ℕ) (fixed : List (Option NiId)) (table : TableData) (core : ℕ)
    → IsSeating nis fixed table core → length fixed ≤ core
    → table ≡ record { nis = nis; places = first_places fixed }
seating-all nis fixed table core so_far past =
    let all : table.places ≡ first_places fixed =
    sym (ap (seated_from table.places core) (drop_all core fixed past)) ∙ so_far.seated in
    ap (λ n. record { nis = n; places = table.places }) so_far.on_chip
    ∙ ap (λ ps. record { nis = nis; places = ps }) all
