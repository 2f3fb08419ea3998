-- The lists of interfaces of a try: they ascend, and where both cores of a channel sit each of its
-- lists has the interface of one, and none is crowded.
use Rattle.std.proofs.Common.{◌≡◌, ◌+◌, ◌<◌, ◌&&◌, ℕ, Bool, true, false, List, [], ◌∷◌, Option}
use Rattle.std.proofs.Common.{None, Some, cond, filter, map, refl, sym, ap, subst, arith, IsSomeAnd}
use Rattle.std.proofs.Common.{is_none}
use Rattle.std.proofs.lemmas.List.FromFn.{get_or-range_with_len, length-range_with_len}
use Rattle.std.proofs.lemmas.List.Kept.{IsStrictlyIncreasing-filter}
use Rattle.std.specs.List.{range_with_len, Sorted.IsStrictlyIncreasing}
use Rattle.aeth_base.specs.declared.ids.NiId.{NiId}
use Rattle.aeth_seats.specs.Places.{Place, has_free, seat_of}
use Rattle.aeth_seats.specs.Seats.{SeatsData, candidates_of, crowded_of, interfaces}
use Rattle.aeth_seats.specs.Seats.{interfaces_from, is_crowded}
use Rattle.aeth_paths.specs.Trials.{Ascend}
use Rattle.aeth_alloc.proofs.SeatLineLemmas.{SitsOn}

-- ---- they ascend

-- An interface alone does.
pub ascend-one : (ni : NiId) → Ascend (ni ∷ [])
ascend-one ni k more = absurd (omega (arith, more))

-- None does.
pub ascend-none : Ascend []
ascend-none k more = absurd (omega (arith, more))

range-increases : (n : ℕ) → IsStrictlyIncreasing (range_with_len 0 n)
range-increases n k more =
    let size = length-range_with_len 0 n in
    let low : k + 1 < n = omega (arith, more, size) in
    let here = get_or-range_with_len 0 n k 0 (omega (arith, low)) in
    let next = get_or-range_with_len 0 n (k + 1) 0 low in
    omega (arith, here, next)

numbers-again : (ns : List ℕ)
    → map (λ (ni : NiId). ni.0) (map (λ n. record { 0 = n }) ns) ≡ ns
numbers-again [] = refl
numbers-again (n ∷ ns) = ap (λ rest. n ∷ rest) (numbers-again ns)

-- Those that pass a test do.
interfaces-ascend : (nis : ℕ) (test : ℕ → Bool) → Ascend (interfaces nis test)
interfaces-ascend nis test =
    subst IsStrictlyIncreasing (sym (numbers-again (filter test (range_with_len 0 nis))))
    (IsStrictlyIncreasing-filter test (range_with_len 0 nis) (range-increases nis))

ascend-from : (seats : SeatsData) (place : Option Place) → Ascend (interfaces_from seats place)
ascend-from seats (Some place) = ascend-one place.0
ascend-from seats None = interfaces-ascend seats.nis (has_free seats.places)

-- The candidates for a core do.
pub candidates-ascend : (seats : SeatsData) (core : ℕ) → Ascend (candidates_of seats core)
candidates-ascend seats core = ascend-from seats (seat_of seats.places core)

-- So do the interfaces that are crowded.
pub crowded-ascend : (seats : SeatsData) (a b : ℕ) → Ascend (crowded_of seats a b)
crowded-ascend seats a b =
    let go : (both : Bool)
    → Ascend (cond both (interfaces seats.nis (is_crowded seats.places)) []) =
    elim [
      | true ↦ interfaces-ascend seats.nis (is_crowded seats.places)
      | false ↦ ascend-none
    ]
    in go (is_none (seat_of seats.places a) && is_none (seat_of seats.places b))

-- ---- where a core sits

from-seat : (seats : SeatsData) (ni : NiId) (place : Option Place)
    → IsSomeAnd place (λ p. p.0 ≡ ni) → interfaces_from seats place ≡ ni ∷ []
from-seat seats ni None sits = absurd sits
from-seat seats ni (Some place) sits = ap (λ n. n ∷ []) sits

-- The candidate for a core is where it sits.
pub candidates-seated : (seats : SeatsData) (core : ℕ) (ni : NiId) → SitsOn seats.places core ni
    → candidates_of seats core ≡ ni ∷ []
candidates-seated seats core ni sits = from-seat seats ni (seat_of seats.places core) sits

seated-some : (ni : NiId) (place : Option Place) → IsSomeAnd place (λ p. p.0 ≡ ni)
    → is_none place ≡ false
seated-some ni None sits = absurd sits
seated-some ni (Some place) sits = refl

-- No interface is crowded for a core that sits.
pub crowded-seated : (seats : SeatsData) (a b : ℕ) (ni : NiId) → SitsOn seats.places a ni
    → crowded_of seats a b ≡ []
crowded-seated seats a b ni sits =
    ap (λ free. cond (free && is_none (seat_of seats.places b))
    (interfaces seats.nis (is_crowded seats.places)) [])
    (seated-some ni (seat_of seats.places a) sits)
