-- Fixed cores are seated one after the other: where each sits then.
use Rattle.std.proofs.Common.{◌≡◌, ◌≢◌, ◌<◌, ◌≤◌, ◌∙◌, ◌+◌, ◌&&◌, ◌||◌, ℕ, zero, suc, Bool, true}
use Rattle.std.proofs.Common.{false, List, [], ◌∷◌, length, get_or, set, Some, None, Option, refl}
use Rattle.std.proofs.Common.{sym, ap, inl, inr, arith, not, map, cond, eqb, ltb, slice_get, take}
use Rattle.std.proofs.Common.{unwrap_or, eq-eqb, ne_eqb, lt-ltb, le-ltb, length-set}
use Rattle.std.proofs.lemmas.Bool.{cases_eq, cases_lt}
use Rattle.std.proofs.lemmas.List.FromFn.{get_or-map-range_with_len, length-map-range_with_len}
use Rattle.std.proofs.lemmas.List.Sums.{sum_by-cons, position_or_len_is}
use Rattle.std.specs.List.{position_or_len, range_with_len, count_by}
use Rattle.aeth_base.specs.declared.ids.NiId.{NiId}
use Rattle.aeth_app.specs.{App.is_ni, Limits.seats_per_ni}
use Rattle.aeth_seats.specs.First.{fixed_count, seated_from}
use Rattle.aeth_seats.specs.Places.{Place, is_taken, lowest_free, placed, placed_on, seat_of}
use Rattle.aeth_seats.specs.Places.{sits_on, taken_seats}
use Rattle.aeth_seats.proofs.TakenLemmas.{is_taken-more, seat_of-set_other, seat_of-set_same}
use Rattle.aeth_seats.proofs.SeatingLemmas.{seated_from-earlier}

-- A number at or below which a number is.
level : (seat count : ℕ) → (eqb count seat || ltb seat count) ≡ ltb seat (count + 1)
level seat count = elim (cases_eq count seat) [
  | inl same ↦
      ap (λ b. b || ltb seat count) (eq-eqb count seat same)
      ∙ sym (lt-ltb seat (count + 1) (omega arith))
  | inr apart ↦
      ap (λ b. b || ltb seat count) (ne_eqb count seat apart)
      ∙ elim (cases_lt seat count) [
        | inl below ↦ lt-ltb seat count below ∙ sym (lt-ltb seat (count + 1) (omega arith))
        | inr above ↦ le-ltb seat count above ∙ sym (le-ltb seat (count + 1) (omega arith))
      ]
]

-- What was seated so far: each interface has its lowest seats taken, as many as cores are fixed to it
-- so far, and there are seats for those to come.
pub record IsFilled (places : List (Option Place)) (core : ℕ) (fixed : List (Option NiId))
    (count : ℕ → ℕ) : Type 0 where
  pub size : core + length fixed ≡ length places
  pub later : (c : ℕ) → core ≤ c → seat_of places c ≡ None
  pub few : (ni : ℕ) → count ni + count_by (λ to. is_ni to ni) fixed ≤ seats_per_ni
  pub taken : (ni seat : ℕ) → is_taken places ni seat ≡ ltb seat (count ni)

-- The lowest free seat of an interface then.
lowest-filled : (places : List (Option Place)) (ni count : ℕ)
    → ((seat : ℕ) → is_taken places ni seat ≡ ltb seat count) → count < seats_per_ni
    → lowest_free places ni ≡ Some count
unfolding taken_seats
lowest-filled places ni count taken low =
    let seats : List Bool = map (is_taken places ni) (range_with_len 0 seats_per_ni) in
    let size = length-map-range_with_len (is_taken places ni) 0 seats_per_ni in
    let at : (k : ℕ) → k < seats_per_ni → get_or seats k false ≡ ltb k count =
    λ k low. get_or-map-range_with_len (is_taken places ni) 0 seats_per_ni k k false low
    (omega arith) ∙ taken k in
    let is : position_or_len not seats ≡ count =
    position_or_len_is not seats count false (omega arith)
    (λ k before. ap not (at k (omega arith) ∙ lt-ltb k count before))
    (λ within. ap not (at count low ∙ le-ltb count count (omega arith))) in
    let there : ltb (position_or_len not seats) (length seats) ≡ true =
    lt-ltb _ _ (omega arith) in
    ap (λ b. cond b (Some (position_or_len not seats)) None) there ∙ ap Some is

-- The count of an interface, where one more core is fixed to an interface.
counted : (ℕ → ℕ) → NiId → ℕ → ℕ
counted count ni n = count n + cond (eqb ni.0 n) 1 0

-- One more core that is fixed to an interface counts for that one.
fixed_count-more : (ni : NiId) (fixed : List (Option NiId)) (n : ℕ)
    → fixed_count (Some ni ∷ fixed) n ≡ cond (eqb ni.0 n) 1 0 + fixed_count fixed n
fixed_count-more ni fixed n = sum_by-cons (λ to. cond (is_ni to n) 1 0) (Some ni) fixed

fixed_count-same : (fixed : List (Option NiId)) (n : ℕ)
    → fixed_count (None ∷ fixed) n ≡ fixed_count fixed n
fixed_count-same fixed n =
    sum_by-cons (λ to. cond (is_ni to n) 1 0) None fixed ∙ (omega arith)

-- The next seat of an interface is taken, beside those below it.
taken-more : (count : ℕ → ℕ) (ni : NiId) (n seat : ℕ) (before : Bool)
    → before ≡ ltb seat (count n)
    → (sits_on n seat (Some (ni, count ni.0)) || before) ≡ ltb seat (counted count ni n)
unfolding counted
taken-more count ni n seat before is = elim (cases_eq ni.0 n) [
  | inl same ↦
      let yes : eqb ni.0 n ≡ true = eq-eqb ni.0 n same in
      ap (λ t. (t && eqb (count ni.0) seat) || before) yes
      ∙ ap (λ k. eqb k seat || before) (ap count same)
      ∙ ap (λ b. eqb (count n) seat || b) is ∙ level seat (count n)
      ∙ ap (λ t. ltb seat (count n + cond t 1 0)) (sym yes)
  | inr apart ↦
      let no : eqb ni.0 n ≡ false = ne_eqb ni.0 n apart in
      let zero_more : count n ≡ count n + 0 = omega arith in
      ap (λ t. (t && eqb (count ni.0) seat) || before) no
      ∙ is ∙ ap (λ k. ltb seat k) zero_more
      ∙ ap (λ t. ltb seat (count n + cond t 1 0)) (sym no)
]

-- The next core is fixed to an interface: it takes the seat of the count.
placed-filled : (places : List (Option Place)) (core : ℕ) (ni : NiId) (fixed : List (Option NiId))
    (count : ℕ → ℕ) → IsFilled places core (Some ni ∷ fixed) count
    → placed places core ni ≡ set places core (Some (ni, count ni.0))
placed-filled places core ni fixed count filled =
    let one : cond (eqb ni.0 ni.0) 1 0 ≡ 1 = ap (λ (b : Bool). cond {A = ℕ} b 1 0) (eq-eqb ni.0 ni.0 refl) in
    let all : fixed_count (Some ni ∷ fixed) ni.0 ≡ 1 + fixed_count fixed ni.0 =
    fixed_count-more ni fixed ni.0 ∙ ap (λ k. k + fixed_count fixed ni.0) one in
    let low : count ni.0 < seats_per_ni = omega (arith, filled.few ni.0, all) in
    ap (placed_on places core ni)
    (lowest-filled places ni.0 (count ni.0) (filled.taken ni.0) low)

-- There are seats for those to come then.
few-more : (count : ℕ → ℕ) (ni : NiId) (fixed : List (Option NiId))
    → ((n : ℕ) → count n + fixed_count (Some ni ∷ fixed) n ≤ seats_per_ni)
    → (n : ℕ) → counted count ni n + fixed_count fixed n ≤ seats_per_ni
unfolding counted
few-more count ni fixed few n = let all = fixed_count-more ni fixed n in omega (arith, few n)

filled-more : (places : List (Option Place)) (core : ℕ) (ni : NiId) (fixed : List (Option NiId))
    (count : ℕ → ℕ) → IsFilled places core (Some ni ∷ fixed) count
    → IsFilled (set places core (Some (ni, count ni.0))) (core + 1) fixed (counted count ni)
filled-more places core ni fixed count filled =
    let there : core < length places = omega (arith, filled.size) in
    let none = filled.later core (omega arith) in
    record {
      size = omega (arith, filled.size, length-set places core (Some (ni, count ni.0)));
      later = λ c from. let apart : c ≢ core = omega arith in
          seat_of-set_other places core c (Some (ni, count ni.0)) apart
          ∙ filled.later c (omega arith);
      few = few-more count ni fixed filled.few;
      taken = λ n seat. is_taken-more places core (ni, count ni.0) n seat there none
          ∙ taken-more count ni n seat (is_taken places n seat) (filled.taken n seat);
    }

filled-unfixed : (places : List (Option Place)) (core : ℕ) (fixed : List (Option NiId))
    (count : ℕ → ℕ) → IsFilled places core (None ∷ fixed) count
    → IsFilled places (core + 1) fixed count
filled-unfixed places core fixed count filled = record {
  size = omega (arith, filled.size);
  later = λ c from. filled.later c (omega arith);
  few = λ n. omega (arith, filled.few n, fixed_count-same fixed n);
  taken = filled.taken;
}

-- The seat of a core before any path is chosen, if it is fixed: the number of the cores before it
-- that are fixed to the same interface, more than there were.
abbrev pub seat_by : (ℕ → ℕ) → List (Option NiId) → ℕ → Option NiId → Option Place
seat_by count fixed i None = None
seat_by count fixed i (Some ni) = Some (ni, count ni.0 + fixed_count (take i fixed) ni.0)

seat_by-skips : (count : ℕ → ℕ) (fixed : List (Option NiId)) (i : ℕ) (to : Option NiId)
    → seat_by count fixed i to ≡ seat_by count (None ∷ fixed) (suc i) to
seat_by-skips count fixed i None = refl
seat_by-skips count fixed i (Some ni) =
    ap (λ k. Some (ni, count ni.0 + k)) (sym (fixed_count-same (take i fixed) ni.0))

seat_by-counts : (count : ℕ → ℕ) (m : NiId) (fixed : List (Option NiId)) (i : ℕ)
    (to : Option NiId)
    → seat_by (counted count m) fixed i to ≡ seat_by count (Some m ∷ fixed) (suc i) to
unfolding counted
seat_by-counts count m fixed i None = refl
seat_by-counts count m fixed i (Some ni) =
    ap (λ k. Some (ni, k))
    (let more = fixed_count-more m (take i fixed) ni.0 in omega (arith, more))

-- Each core has that seat once the fixed ones were seated.
pub seat_of-filled : (places : List (Option Place)) (core : ℕ) (fixed : List (Option NiId))
    (count : ℕ → ℕ) → IsFilled places core fixed count → (i : ℕ)
    → seat_of (seated_from places core fixed) (core + i)
    ≡ seat_by count fixed i (unwrap_or (slice_get fixed i) None)
seat_of-filled places core [] count filled i = filled.later (core + i) (omega arith)
seat_of-filled places core (None ∷ fixed) count filled zero =
    seated_from-earlier places (core + 1) fixed (core + 0) (omega arith)
    ∙ filled.later (core + 0) (omega arith)
seat_of-filled places core (None ∷ fixed) count filled (suc i) =
    let next : core + suc i ≡ (core + 1) + i = omega arith in
    ap (seat_of (seated_from places (core + 1) fixed)) next
    ∙ seat_of-filled places (core + 1) fixed count
    (filled-unfixed places core fixed count filled) i
    ∙ seat_by-skips count fixed i (unwrap_or (slice_get fixed i) None)
seat_of-filled places core (Some ni ∷ fixed) count filled zero =
    let seated : List (Option Place) = set places core (Some (ni, count ni.0)) in
    let here : core + 0 ≡ core = omega arith in
    let none_before : count ni.0 ≡ count ni.0 + 0 = omega arith in
    let there : core < length places = omega (arith, filled.size) in
    seated_from-earlier (placed places core ni) (core + 1) fixed (core + 0) (omega arith)
    ∙ ap (λ p. seat_of p (core + 0)) (placed-filled places core ni fixed count filled)
    ∙ ap (seat_of seated) here
    ∙ seat_of-set_same places core (Some (ni, count ni.0)) there
    ∙ ap (λ k. Some (ni, k)) none_before
seat_of-filled places core (Some ni ∷ fixed) count filled (suc i) =
    let next : core + suc i ≡ (core + 1) + i = omega arith in
    let is = placed-filled places core ni fixed count filled in
    ap (λ p. seat_of (seated_from p (core + 1) fixed) (core + suc i)) is
    ∙ ap (seat_of (seated_from (set places core (Some (ni, count ni.0))) (core + 1) fixed)) next
    ∙ seat_of-filled (set places core (Some (ni, count ni.0))) (core + 1) fixed
    (counted count ni) (filled-more places core ni fixed count filled) i
    ∙ seat_by-counts count ni fixed i (unwrap_or (slice_get fixed i) None)
