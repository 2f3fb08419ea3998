-- How many seats of an interface are free, before and after a core takes one.
use Rattle.std.proofs.Common.{◌≡◌, ◌≢◌, ◌<◌, ◌≤◌, ◌∙◌, ◌+◌, ◌||◌, ℕ, zero, suc, Bool, true, false}
use Rattle.std.proofs.Common.{List, [], ◌∷◌, length, map, set, Some, None, Option, not, refl, sym}
use Rattle.std.proofs.Common.{ap, inl, inr, arith}
use Rattle.std.proofs.lemmas.Bool.{cases_Bool, cases_eq, not_from_false, not_from_true, or_left}
use Rattle.std.proofs.lemmas.Bool.{or_right}
use Rattle.std.specs.List.{count_by, list_any, range_with_len}
use Rattle.aeth_base.specs.declared.ids.NiId.{NiId}
use Rattle.aeth_base.proofs.Lists.{count_by-any, count_by-no, count_by-yes}
use Rattle.aeth_app.specs.Limits.{seats_per_ni}
use Rattle.aeth_seats.specs.Places.{Place, free_count, has_free, is_taken, lowest_free, placed}
use Rattle.aeth_seats.specs.Places.{placed_on, seat_of, taken_seats}
use Rattle.aeth_seats.proofs.SeatLemmas.{lowest-free, lowest-some}
use Rattle.aeth_seats.proofs.TakenLemmas.{is_taken-more, sits_on-away, sits_on-own}

-- Where the number of elements that pass isn't 0, some element passes.
counts-any : {X : Type 0} (test : X → Bool) (xs : List X) → 1 ≤ count_by test xs
    → list_any test xs ≡ true
counts-any test [] some = absurd (omega arith)
counts-any test (x ∷ xs) some = elim (cases_Bool (test x)) [
  | inl passes ↦ or_left (test x) _ passes
  | inr fails ↦ or_right (test x) _ (counts-any test xs
      (omega (arith, count_by-no test x xs fails, some)))
]

-- Marks that differ nowhere.
same-marks : (f f' : ℕ → Bool) (a n : ℕ) → ((s : ℕ) → a ≤ s → f' s ≡ f s)
    → map f' (range_with_len a n) ≡ map f (range_with_len a n)
same-marks f f' a zero same = refl
same-marks f f' a (suc n) same =
    ap (λ b. b ∷ map f' (range_with_len (a + 1) n)) (same a (omega arith))
    ∙ ap (λ ms. f a ∷ ms) (same-marks f f' (a + 1) n (λ s past. same s (omega arith)))

-- One more mark takes one from the number of those that aren't marked.
one-less : (f f' : ℕ → Bool) (seat a n : ℕ) → a ≤ seat → seat < a + n → f seat ≡ false
    → f' seat ≡ true → ((s : ℕ) → s ≢ seat → f' s ≡ f s)
    → count_by not (map f' (range_with_len a n)) + 1 ≡ count_by not (map f (range_with_len a n))
one-less f f' seat a zero from below free marked same = absurd (omega arith)
one-less f f' seat a (suc n) from below free marked same =
    let before : List Bool = map f (range_with_len (a + 1) n) in
    let after : List Bool = map f' (range_with_len (a + 1) n) in
    elim (cases_eq a seat) [
      | inl here ↦
          let rest = ap (count_by not) (same-marks f f' (a + 1) n (λ s past.
          same s (omega (arith, here, past)))) in
          let one = count_by-yes not (f a) before (ap (λ s. not (f s)) here
          ∙ not_from_false (f seat) free) in
          let none = count_by-no not (f' a) after (ap (λ s. not (f' s)) here
          ∙ not_from_true (f' seat) marked) in
          omega (arith, rest, one, none)
      | inr apart ↦
          let rest = one-less f f' seat (a + 1) n (omega (arith, apart)) (omega arith) free marked
          same in
          let alike = same a apart in
          elim (cases_Bool (not (f a))) [
            | inl passes ↦
                omega (
                  arith,
                  rest,
                  count_by-yes not (f a) before passes,
                  count_by-yes not (f' a) after (ap not alike ∙ passes),
                )
            | inr fails ↦
                omega (
                  arith,
                  rest,
                  count_by-no not (f a) before fails,
                  count_by-no not (f' a) after (ap not alike ∙ fails),
                )
          ]
    ]

-- An interface has a free seat exactly where the number of them isn't 0.
pub some-free : (places : List (Option Place)) (ni : ℕ) → has_free places ni ≡ true
    → 1 ≤ free_count places ni
some-free places ni = count_by-any not (taken_seats places ni)

pub free-some : (places : List (Option Place)) (ni : ℕ) → 1 ≤ free_count places ni
    → has_free places ni ≡ true
free-some places ni = counts-any not (taken_seats places ni)

-- A core that takes a seat of an interface takes exactly one of its free ones.
taken-one : (places : List (Option Place)) (core : ℕ) (ni : NiId) (found : Option ℕ)
    → core < length places → seat_of places core ≡ None → has_free places ni.0 ≡ true
    → lowest_free places ni.0 ≡ found
    → free_count (placed_on places core ni found) ni.0 + 1 ≡ free_count places ni.0
unfolding taken_seats
taken-one places core ni None there none free found = absurd (lowest-some places ni.0 free found)
taken-one places core ni (Some seat) there none free found =
    let (low, not_taken) = lowest-free places ni.0 seat found in
    let after : List (Option Place) = set places core (Some (ni, seat)) in
    one-less (is_taken places ni.0) (is_taken after ni.0) seat 0 seats_per_ni (omega arith) low
    not_taken
    (is_taken-more places core (ni, seat) ni.0 seat there none
    ∙ or_left _ (is_taken places ni.0 seat) (sits_on-own ni seat))
    (λ s apart. is_taken-more places core (ni, seat) ni.0 s there none
    ∙ ap (λ b. b || is_taken places ni.0 s)
    (sits_on-away (ni, seat) ni.0 s (λ (_, level). apart (sym level))))

pub free-placed : (places : List (Option Place)) (core : ℕ) (ni : NiId) → core < length places
    → seat_of places core ≡ None → has_free places ni.0 ≡ true
    → free_count (placed places core ni) ni.0 + 1 ≡ free_count places ni.0
free-placed places core ni there none free =
    taken-one places core ni (lowest_free places ni.0) there none free refl

-- It leaves the seats of all other interfaces as they were.
left-other : (places : List (Option Place)) (core : ℕ) (ni : NiId) (other : ℕ) (found : Option ℕ)
    → core < length places → seat_of places core ≡ None → other ≢ ni.0
    → free_count (placed_on places core ni found) other ≡ free_count places other
unfolding taken_seats
left-other places core ni other None there none apart = refl
left-other places core ni other (Some seat) there none apart =
    let after : List (Option Place) = set places core (Some (ni, seat)) in
    ap (count_by not) (same-marks (is_taken places other) (is_taken after other) 0 seats_per_ni
    (λ s past. is_taken-more places core (ni, seat) other s there none
    ∙ ap (λ b. b || is_taken places other s)
    (sits_on-away (ni, seat) other s (λ (same, _). apart (sym same)))))

pub free-other : (places : List (Option Place)) (core : ℕ) (ni : NiId) (other : ℕ)
    → core < length places → seat_of places core ≡ None → other ≢ ni.0
    → free_count (placed places core ni) other ≡ free_count places other
free-other places core ni other there none apart =
    left-other places core ni other (lowest_free places ni.0) there none apart
