-- The first seats: each core by itself, and what holds of all.
use Rattle.std.proofs.Common.{◌≡◌, ◌<◌, ◌≤◌, ◌∙◌, ◌+◌, ℕ, List, [], ◌∷◌, length, Some, None, Option}
use Rattle.std.proofs.Common.{refl, sym, ap, arith, map, cond, slice_get, subst, take, replicate}
use Rattle.std.proofs.Common.{IfSome, IsSomeAnd, unwrap_or, le-ltb, option_map}
use Rattle.std.proofs.lemmas.{Bool.false≢true, List.length-map, List.length-replicate}
use Rattle.std.proofs.lemmas.{List.Sums.sum_by-cons, Option.slice_get_within, Option.slice_get-map}
use Rattle.std.proofs.lemmas.{Option.get_or_from_slice_get, Option.same_Some}
use Rattle.std.specs.List.{count_by}
use Rattle.aeth_base.specs.declared.ids.NiId.{NiId}
use Rattle.aeth_app.specs.{App.is_ni, App.AppData, App.IsApp, App.IsAppOf, App.is_fixed_to}
use Rattle.aeth_app.specs.{Limits.seats_per_ni, Limits.max_cores, declared.connection.Core.Core}
use Rattle.aeth_seats.specs.First.{fixed_count, seated_from, AreKnown, first_places, first_seat}
use Rattle.aeth_seats.specs.First.{first_seats, fixed_of, seat_behind}
use Rattle.aeth_seats.specs.Places.{Place, seat_of, sits_on}
use Rattle.aeth_seats.specs.Seats.{IsSeats}
use Rattle.aeth_seats.proofs.TakenLemmas.{length-nothing, none-taken, none-there, nothing}
use Rattle.aeth_seats.proofs.FillLemmas.{IsFilled, seat_by, seat_of-filled}
use Rattle.aeth_seats.proofs.SeatingLemmas.{seats-seated_from}
use Rattle.aeth_chip.specs.{Limits.max_nis, Chip.ChipData, Chip.IsChip}

filled-none : (fixed : List (Option NiId))
    → ((ni : ℕ) → fixed_count fixed ni ≤ seats_per_ni)
    → IsFilled (replicate (length fixed) None) 0 fixed (λ ni. 0)
filled-none fixed few = record {
  size = omega (arith, length-nothing Place (length fixed));
  later = λ c from. none-there Place (length fixed) c;
  few = λ ni. omega (arith, few ni);
  taken = λ ni seat. none-taken (length fixed) ni seat ∙ sym (le-ltb seat 0 (omega arith));
}

seat_by-none : (fixed : List (Option NiId)) (core : ℕ) (to : Option NiId)
    → seat_by (λ ni. 0) fixed core to ≡ seat_behind (take core fixed) to
seat_by-none fixed core None = refl
seat_by-none fixed core (Some ni) =
    let none_before : 0 + fixed_count (take core fixed) ni.0 ≡ fixed_count (take core fixed) ni.0 =
    omega arith in
    ap (λ k. Some (ni, k)) none_before

-- Each core takes the seat that it has by itself.
pub first-seats : (fixed : List (Option NiId))
    → ((ni : ℕ) → fixed_count fixed ni ≤ seats_per_ni)
    → (core : ℕ) → seat_of (first_places fixed) core ≡ first_seat fixed core
unfolding first_places
first-seats fixed few core =
    let first : core ≡ 0 + core = omega arith in
    ap (seat_of (seated_from (replicate (length fixed) None) 0 fixed)) first
    ∙ seat_of-filled (replicate (length fixed) None) 0 fixed (λ ni. 0) (filled-none fixed few) core
    ∙ seat_by-none fixed core (unwrap_or (slice_get fixed core) None)

-- No core has a seat.
seats-none : (nis n : ℕ) → nis ≤ max_nis → n ≤ max_cores
    → IsSeats (record { nis = nis; fixed = replicate n None; places = replicate n None })
seats-none nis n few_nis few = record {
  few_nis = few_nis;
  few = rw length-replicate few;
  cores = length-nothing NiId n ∙ sym (length-nothing Place n);
  apart = λ ni seat a b mine. absurd (false≢true
      (sym (ap (sits_on ni seat) (none-there Place n a)) ∙ mine));
  within = λ core. subst (λ place. IfSome place (λ place.
      (place.0.0 < nis) × (place.1 < seats_per_ni))) (sym (none-there Place n core)) tt;
  stay = λ core ni is. cc (none-there NiId n core);
}

-- What holds of the first seats.
pub seats-first : (nis : ℕ) (fixed : List (Option NiId)) → nis ≤ max_nis
    → length fixed ≤ max_cores
    → AreKnown nis fixed
    → ((ni : ℕ) → fixed_count fixed ni ≤ seats_per_ni)
    → IsSeats (record { nis = nis; fixed = fixed; places = first_places fixed })
unfolding first_places
seats-first nis fixed few_nis few on seats =
    let n : ℕ = length fixed in
    let size : 0 + n ≡ length (nothing Place n) =
    omega (arith, length-nothing Place n) in
    let seated = seats-seated_from (record {
      nis = nis;
      fixed = replicate n None;
      places = replicate n None;
    }) 0 fixed (seats-none nis n few_nis few) size
    (λ c from. none-there Place n c) on in
    record {
      few_nis = few_nis;
      few = seated.few;
      cores = sym (length-nothing NiId n) ∙ seated.cores;
      apart = seated.apart;
      within = seated.within;
      stay = λ core ni is. subst (λ place. IsSomeAnd place (λ place. place.0 ≡ ni))
          (sym (first-seats fixed seats core
          ∙ ap (λ to. seat_behind (take core fixed) (unwrap_or to None)) is)) refl;
    }

-- As many cores are fixed to an interface as the application has such cores.
fixed_count-of : (cores : List Core) (ni : ℕ)
    → fixed_count (map (λ core. core.fixed) cores) ni ≡ count_by (is_fixed_to ni) cores
fixed_count-of [] ni = refl
fixed_count-of (core ∷ cores) ni =
    sum_by-cons (λ to. cond (is_ni to ni) 1 0) core.fixed (map (λ core. core.fixed) cores)
    ∙ ap (λ n. cond (is_ni core.fixed ni) 1 0 + n) (fixed_count-of cores ni)
    ∙ sym (sum_by-cons (λ core. cond (is_fixed_to ni core) 1 0) core cores)

-- So no more are than there are seats.
pub few-fixed : (chip : ChipData) (app : AppData) → IsAppOf chip app → (ni : ℕ)
    → fixed_count (fixed_of app) ni ≤ seats_per_ni
few-fixed chip app is_app ni = omega (arith, is_app.fixed ni, fixed_count-of app.cores ni)

-- A core that is fixed is one of the application.
known-core : (chip : ChipData) (app : AppData) → IsAppOf chip app → (i : ℕ) (ni : NiId)
    → (found : Option Core) → slice_get app.cores i ≡ found
    → option_map (λ core. core.fixed) found ≡ Some (Some ni) → ni.0 < length chip.nis
known-core chip app is_app i ni None at is = cc is
known-core chip app is_app i ni (Some core) at is =
    is_app.known core ni (
      i,
      slice_get_within app.cores i core at,
      get_or_from_slice_get app.cores i core core at,
    )
    (same_Some core.fixed (Some ni) is)

pub known-fixed : (chip : ChipData) (app : AppData) → IsAppOf chip app
    → AreKnown (length chip.nis) (fixed_of app)
known-fixed chip app is_app i ni is =
    known-core chip app is_app i ni (slice_get app.cores i) refl
    (sym (slice_get-map (λ core. core.fixed) app.cores i) ∙ is)

-- What holds of the first seats of an application.
pub seats-of-app : (chip : ChipData) (app : AppData) → IsChip chip → IsApp app
    → IsAppOf chip app → IsSeats (first_seats chip app)
seats-of-app chip app is_chip is_app of_chip =
    let cores : length (fixed_of app) ≡ length app.cores =
    length-map app.cores (λ core. core.fixed) in
    seats-first (length chip.nis) (fixed_of app) is_chip.nis (omega (arith, is_app.cores, cores))
    (known-fixed chip app of_chip) (few-fixed chip app of_chip)
