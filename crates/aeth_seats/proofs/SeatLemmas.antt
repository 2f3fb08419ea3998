-- What holds of all seats, with a core more and with one less.
use Rattle.std.proofs.Common.{◌≡◌, ◌≢◌, ◌<◌, ◌∙◌, ◌+◌, ◌||◌, ℕ, zero, suc, Bool, true, false, List}
use Rattle.std.proofs.Common.{[], ◌∷◌, length, set, Some, None, Option, refl, sym, ap, inl, inr}
use Rattle.std.proofs.Common.{arith, not, map, cond, slice_get, subst, filter, ◌++◌, append-nil}
use Rattle.std.proofs.Common.{IfSome, IsSomeAnd, lt-ltb, length-set}
use Rattle.std.proofs.lemmas.List.{map-append, Elements.filter-append}
use Rattle.std.proofs.lemmas.List.{FromFn.get_or-map-range_with_len}
use Rattle.std.proofs.lemmas.List.{FromFn.length-map-range_with_len, Quantifiers.position-Some}
use Rattle.std.proofs.lemmas.Bool.{cases_Bool, cases_eq, both_ways, not-true, false≢true}
use Rattle.std.proofs.lemmas.Option.{slice_get_within}
use Rattle.std.specs.List.{list_any, position_or_len, range_with_len}
use Rattle.aeth_base.{proofs.Ranges.range_with_len-more, specs.declared.ids.NiId.NiId}
use Rattle.aeth_seats.specs.Seats.{interfaces, IsSeats, SeatsData, with_core, without_core}
use Rattle.aeth_seats.specs.Places.{Place, has_free, is_taken, lowest_free, placed, placed_on}
use Rattle.aeth_seats.specs.Places.{seat_of, sits_on, taken_seats}
use Rattle.aeth_seats.proofs.TakenLemmas.{taken_back-none, seat_of-set_other, seat_of-set_same}
use Rattle.aeth_seats.proofs.TakenLemmas.{sits_on-parts, taken_by}
use Rattle.aeth_app.specs.Limits.{seats_per_ni}

-- The lowest free seat is a seat that is free.
pub lowest-free : (places : List (Option Place)) (ni seat : ℕ)
    → lowest_free places ni ≡ Some seat
    → (seat < seats_per_ni) × (is_taken places ni seat ≡ false)
unfolding taken_seats
lowest-free places ni seat found =
    let seats : List Bool = map (is_taken places ni) (range_with_len 0 seats_per_ni) in
    let (within, free, _first) = position-Some not seats seat false found in
    let low : seat < seats_per_ni =
    omega (arith, length-map-range_with_len (is_taken places ni) 0 seats_per_ni) in (
      low,
      not-true _ (ap not (sym (get_or-map-range_with_len (is_taken places ni) 0 seats_per_ni
          seat seat false low (omega arith))) ∙ free),
    )

-- What holds of the seat of each core, where a core's seat was written.
each_seat : (P : ℕ → Option Place → Type 0) (places : List (Option Place)) (core : ℕ)
    (place : Option Place) → core < length places → P core place
    → ((other : ℕ) → other ≢ core → P other (seat_of places other))
    → (c : ℕ) → P c (seat_of (set places core place) c)
each_seat P places core place there here others c = elim (cases_eq c core) [
  | inl same ↦ subst (λ k. P k (seat_of (set places core place) k)) (sym same)
      (subst (P core) (sym (seat_of-set_same places core place there)) here)
  | inr apart ↦ subst (P c) (sym (seat_of-set_other places core c place apart)) (others c apart)
]

-- A core that has no seat takes a free one of an interface.
seats-seated : (seats : SeatsData) (core : ℕ) (ni : NiId) (seat : ℕ) → IsSeats seats
    → core < length seats.places → seat_of seats.places core ≡ None → ni.0 < seats.nis
    → seat < seats_per_ni → is_taken seats.places ni.0 seat ≡ false
    → IsSeats (record {
      nis = seats.nis;
      fixed = seats.fixed;
      places = set seats.places core (Some (ni, seat));
    })
seats-seated seats core ni seat is_seats there none on low free =
    let size = length-set seats.places core (Some (ni, seat)) in
    let alone : (n s other : ℕ) → sits_on n s (Some (ni, seat)) ≡ true
    → sits_on n s (seat_of seats.places other) ≡ true → ⊥ =
    λ n s other mine its.
    let (one, level) = sits_on-parts (ni, seat) n s mine in
    both_ways (is_taken seats.places ni.0 seat) free
    (rw (one, level) (taken_by seats.places other n s its)) in
    record {
      few_nis = is_seats.few_nis;
      few = omega (arith, is_seats.few);
      cores = is_seats.cores ∙ sym size;
      apart = λ n s.
          each_seat (λ a mine. (b : ℕ) → sits_on n s mine ≡ true
          → sits_on n s (seat_of (set seats.places core (Some (ni, seat))) b) ≡ true → a ≡ b)
          seats.places core (Some (ni, seat)) there
          (each_seat (λ b its. sits_on n s (Some (ni, seat)) ≡ true → sits_on n s its ≡ true
          → core ≡ b) seats.places core (Some (ni, seat)) there (λ mine its. refl)
          (λ b apart mine its. absurd (alone n s b mine its)))
          (λ a apart. each_seat (λ b its. sits_on n s (seat_of seats.places a) ≡ true
          → sits_on n s its ≡ true → a ≡ b) seats.places core (Some (ni, seat)) there
          (λ mine its. absurd (alone n s a its mine))
          (λ b apart'. is_seats.apart n s a b));
      within = each_seat (λ c place. IfSome place (λ place.
          (place.0.0 < seats.nis) × (place.1 < seats_per_ni))) seats.places core _ there
          (on, low) (λ c apart. is_seats.within c);
      stay = λ c fixed_to is. each_seat (λ c place. slice_get seats.fixed c ≡ Some (Some fixed_to)
          → IsSomeAnd place (λ place. place.0 ≡ fixed_to)) seats.places core _ there
          (λ is. absurd (subst (λ place. IsSomeAnd place (λ place. place.0 ≡ fixed_to)) none
          (is_seats.stay core fixed_to is)))
          (λ c apart. is_seats.stay c fixed_to) c is;
    }

-- A core that has no seat takes the lowest free one of an interface, if it has one.
placed-keeps : (seats : SeatsData) (core : ℕ) (ni : NiId) → IsSeats seats
    → core < length seats.places → seat_of seats.places core ≡ None → ni.0 < seats.nis
    → (found : Option ℕ) → lowest_free seats.places ni.0 ≡ found
    → IsSeats (record {
      nis = seats.nis;
      fixed = seats.fixed;
      places = placed_on seats.places core ni found;
    })
placed-keeps seats core ni is_seats there none on None found = is_seats
placed-keeps seats core ni is_seats there none on (Some seat) found =
    let (low, free) = lowest-free seats.places ni.0 seat found in
    seats-seated seats core ni seat is_seats there none on low free

pub seats-with_core : (seats : SeatsData) (core : ℕ) (ni : NiId) → IsSeats seats
    → core < length seats.places → seat_of seats.places core ≡ None → ni.0 < seats.nis
    → IsSeats (with_core seats core ni)
seats-with_core seats core ni is_seats there none on =
    placed-keeps seats core ni is_seats there none on (lowest_free seats.places ni.0) refl

-- A core that isn't fixed gives its seat back.
pub seats-without_core : (seats : SeatsData) (core : ℕ) → IsSeats seats
    → slice_get seats.fixed core ≡ Some None → IsSeats (without_core seats core)
seats-without_core seats core is_seats free =
    let size = length-set seats.places core None in
    let there : core < length seats.places =
    omega (arith, slice_get_within seats.fixed core None free, is_seats.cores) in
    record {
      few_nis = is_seats.few_nis;
      few = omega (arith, is_seats.few);
      cores = is_seats.cores ∙ sym size;
      apart = λ n s.
          each_seat (λ a mine. (b : ℕ) → sits_on n s mine ≡ true
          → sits_on n s (seat_of (set seats.places core None) b) ≡ true → a ≡ b)
          seats.places core None there
          (λ b mine its. absurd (false≢true mine))
          (λ a apart. each_seat (λ b its. sits_on n s (seat_of seats.places a) ≡ true
          → sits_on n s its ≡ true → a ≡ b) seats.places core None there
          (λ mine its. absurd (false≢true its))
          (λ b apart'. is_seats.apart n s a b));
      within = each_seat (λ c place. IfSome place (λ place.
          (place.0.0 < seats.nis) × (place.1 < seats_per_ni))) seats.places core None there
          tt (λ c apart. is_seats.within c);
      stay = λ c fixed_to is. each_seat (λ c place. slice_get seats.fixed c ≡ Some (Some fixed_to)
          → IsSomeAnd place (λ place. place.0 ≡ fixed_to)) seats.places core None there
          (λ is. cc (free, is)) (λ c apart. is_seats.stay c fixed_to) c is;
    }

-- Where an element passes, the first place of one is there.
passes-within : {X : Type 0} (test : X → Bool) (xs : List X) → list_any test xs ≡ true
    → position_or_len test xs < length xs
passes-within test [] found = absurd (false≢true found)
passes-within test (x ∷ xs) found = elim (cases_Bool (test x)) [
  | inl here ↦ rw here (omega arith)
  | inr not_here ↦
      let rest = passes-within test xs (ap (λ b. b || list_any test xs) (sym not_here) ∙ found) in
      rw not_here (omega arith)
]

-- What was written twice at a place.
set-twice : {X : Type 0} (xs : List X) (i : ℕ) (x y : X)
    → set (set xs i x) i y ≡ set xs i y
set-twice [] i x y = refl
set-twice (z ∷ xs) zero x y = refl
set-twice (z ∷ xs) (suc i) x y = ap (λ ys. z ∷ ys) (set-twice xs i x y)

-- A core that takes a seat and gives it back leaves all as it was.
undone-on : (places : List (Option Place)) (core : ℕ) (ni : NiId) (found : Option ℕ)
    → seat_of places core ≡ None → set (placed_on places core ni found) core None ≡ places
undone-on places core ni None none = taken_back-none places core none
undone-on places core ni (Some seat) none =
    set-twice places core (Some (ni, seat)) None ∙ taken_back-none places core none

pub seats-undone : (seats : SeatsData) (core : ℕ) (ni : NiId)
    → core < length seats.places → seat_of seats.places core ≡ None
    → without_core (with_core seats core ni) core ≡ seats
seats-undone seats core ni there none =
    ap (λ places. record { nis = seats.nis; fixed = seats.fixed; places = places })
    (undone-on seats.places core ni (lowest_free seats.places ni.0) none)

-- An interface with a free seat has a lowest one.
pub lowest-some : (places : List (Option Place)) (ni : ℕ) → has_free places ni ≡ true
    → lowest_free places ni ≡ None → ⊥
lowest-some places ni free found =
    let seats : List Bool = taken_seats places ni in
    let within = lt-ltb (position_or_len not seats) (length seats)
    (passes-within not seats free) in
    cc (found, ap (λ b. cond b (Some (position_or_len not seats)) None) within)

-- A core that takes a seat of an interface with a free one sits there.
sits-on : (places : List (Option Place)) (core : ℕ) (ni : NiId) (found : Option ℕ)
    → core < length places → has_free places ni.0 ≡ true → lowest_free places ni.0 ≡ found
    → IsSomeAnd (seat_of (placed_on places core ni found) core) (λ place. place.0 ≡ ni)
sits-on places core ni None there free found = absurd (lowest-some places ni.0 free found)
sits-on places core ni (Some seat) there free found =
    subst (λ place. IsSomeAnd place (λ place. place.0 ≡ ni))
    (sym (seat_of-set_same places core (Some (ni, seat)) there)) refl

pub sits-placed : (places : List (Option Place)) (core : ℕ) (ni : NiId) → core < length places
    → has_free places ni.0 ≡ true
    → IsSomeAnd (seat_of (placed places core ni) core) (λ place. place.0 ≡ ni)
sits-placed places core ni there free =
    sits-on places core ni (lowest_free places ni.0) there free refl

by_test : (b : Bool) (f : ℕ → NiId) (n : ℕ)
    → map f (cond b (n ∷ []) []) ≡ cond b (f n ∷ []) []
by_test true f n = refl
by_test false f n = refl

-- The interfaces with one more that is tested.
interfaces-more : (n : ℕ) (test : ℕ → Bool)
    → interfaces (n + 1) test ≡ interfaces n test ++ cond (test n) (record { 0 = n } ∷ []) []
interfaces-more n test =
    let next : n + 1 ≡ suc n = omega arith in
    let f : ℕ → NiId = λ n. record { 0 = n } in
    let last : map f (filter test (n ∷ [])) ≡ cond (test n) (f n ∷ []) [] =
    by_test (test n) f n in
    ap (λ k. interfaces k test) next
    ∙ ap (λ ns. map f (filter test ns)) (range_with_len-more 0 n n (omega arith))
    ∙ ap (map f) (filter-append test (range_with_len 0 n) (n ∷ []))
    ∙ map-append f (filter test (range_with_len 0 n)) (filter test (n ∷ []))
    ∙ ap (λ ns. interfaces n test ++ ns) last

-- One more interface that passes a test, and one that fails.
pub interfaces-passes : (n : ℕ) (test : ℕ → Bool) → test n ≡ true
    → interfaces (n + 1) test ≡ interfaces n test ++ record { 0 = n } ∷ []
interfaces-passes n test passes =
    interfaces-more n test ∙ ap (λ b. interfaces n test ++ cond b (record { 0 = n } ∷ []) []) passes

pub interfaces-fails : (n : ℕ) (test : ℕ → Bool) → test n ≡ false
    → interfaces (n + 1) test ≡ interfaces n test
interfaces-fails n test fails =
    interfaces-more n test ∙ ap (λ b. interfaces n test ++ cond b (record { 0 = n } ∷ []) []) fails
    ∙ append-nil (interfaces n test)
