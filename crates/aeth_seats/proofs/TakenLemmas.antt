-- Which seats are taken after a core took one, and after it gave it back.
use Rattle.std.proofs.Common.{◌≡◌, ◌≢◌, ◌<◌, ◌∙◌, ◌||◌, ℕ, zero, suc, Bool, true, false, List, []}
use Rattle.std.proofs.Common.{◌∷◌, length, get_or, set, Some, None, Option, refl, sym, ap, inl, inr}
use Rattle.std.proofs.Common.{arith, slice_get, eqb-true, eq-eqb, replicate, get_or-set_same}
use Rattle.std.proofs.Common.{get_or-set_other, length-set, unwrap_or}
use Rattle.std.proofs.lemmas.Bool.{cases_Bool, cases_eq, and_parts, both_ways, and_from, cases_lt}
use Rattle.std.proofs.lemmas.List.{set-get_or, get_or-replicate, length-replicate, get_or_default}
use Rattle.std.proofs.lemmas.List.{get_or_past, Folds.list_any_none, Folds.list_any_at}
use Rattle.std.proofs.lemmas.Option.{unwrap_or-slice_get}
use Rattle.std.specs.List.{list_any}
use Rattle.aeth_base.specs.declared.ids.NiId.{NiId}
use Rattle.aeth_seats.specs.Places.{Place, is_taken, seat_of, sits_on}

exchange : (a b c : Bool) → (a || (b || c)) ≡ (b || (a || c))
exchange true true c = refl
exchange true false c = refl
exchange false true c = refl
exchange false false c = refl

-- An element that fails gives way to another.
list_any-set : {X : Type 0} (test : X → Bool) (xs : List X) (i : ℕ) (y d : X) → i < length xs
    → test (get_or xs i d) ≡ false → list_any test (set xs i y) ≡ (test y || list_any test xs)
list_any-set test [] i y d within fails = absurd (omega arith)
list_any-set test (x ∷ xs) zero y d within fails =
    ap (λ b. test y || (b || list_any test xs)) (sym fails)
list_any-set test (x ∷ xs) (suc i) y d within fails =
    ap (λ b. test x || b) (list_any-set test xs i y d (omega arith) fails)
    ∙ exchange (test x) (test y) (list_any test xs)

-- The one element that passes gives way to one that fails.
list_any-cleared : {X : Type 0} (test : X → Bool) (xs : List X) (i : ℕ) (y : X)
    → test y ≡ false
    → ((j : ℕ) (d : X) → j < length xs → j ≢ i → test (get_or xs j d) ≡ false)
    → list_any test (set xs i y) ≡ false
list_any-cleared test xs i y fails others =
    list_any_none test (set xs i y) (λ j d within.
    let size = length-set xs i y in
    elim (cases_eq j i) [
      | inl here ↦
          let there : i < length xs = omega arith in
          ap (λ k. test (get_or (set xs i y) k d)) here
          ∙ ap test (get_or-set_same xs i y d there) ∙ fails
      | inr other ↦
          ap test (get_or-set_other xs i j y d other) ∙ others j d (omega arith) other
    ])

-- The seat of a core that was written is the one that was written, and those of others stay.
pub seat_of-set_same : (places : List (Option Place)) (core : ℕ) (place : Option Place)
    → core < length places → seat_of (set places core place) core ≡ place
seat_of-set_same places core place within =
    unwrap_or-slice_get (set places core place) core None
    ∙ get_or-set_same places core place None within

pub seat_of-set_other : (places : List (Option Place)) (core other : ℕ) (place : Option Place)
    → other ≢ core → seat_of (set places core place) other ≡ seat_of places other
seat_of-set_other places core other place apart =
    unwrap_or-slice_get (set places core place) other None
    ∙ get_or-set_other places core other place None apart
    ∙ sym (unwrap_or-slice_get places other None)

-- A core that has no seat takes one: it is taken then, beside those that were.
pub is_taken-more : (places : List (Option Place)) (core : ℕ) (place : Place) (ni seat : ℕ)
    → core < length places → seat_of places core ≡ None
    → is_taken (set places core (Some place)) ni seat
    ≡ (sits_on ni seat (Some place) || is_taken places ni seat)
is_taken-more places core place ni seat within none =
    list_any-set (sits_on ni seat) places core (Some place) None within
    (ap (sits_on ni seat) (sym (unwrap_or-slice_get places core None) ∙ none))

-- A core that sits on no such seat gives its seat back: the seat is taken as before.
pub is_taken-same : (places : List (Option Place)) (core ni seat : ℕ) → core < length places
    → sits_on ni seat (seat_of places core) ≡ false
    → is_taken (set places core None) ni seat ≡ is_taken places ni seat
is_taken-same places core ni seat within away =
    list_any-set (sits_on ni seat) places core None None within
    (ap (sits_on ni seat) (sym (unwrap_or-slice_get places core None)) ∙ away)

-- The only core on a seat gives it back: the seat is free.
pub is_taken-cleared : (places : List (Option Place)) (core ni seat : ℕ)
    → ((other : ℕ) → other ≢ core → sits_on ni seat (seat_of places other) ≡ false)
    → is_taken (set places core None) ni seat ≡ false
is_taken-cleared places core ni seat alone =
    list_any-cleared (sits_on ni seat) places core None refl (λ other d within apart.
    ap (sits_on ni seat) (get_or_default places other d None within
    ∙ sym (unwrap_or-slice_get places other None)) ∙ alone other apart)

-- A seat on which some core sits is taken.
pub taken_by : (places : List (Option Place)) (core ni seat : ℕ)
    → sits_on ni seat (seat_of places core) ≡ true → is_taken places ni seat ≡ true
taken_by places core ni seat sits =
    let at : seat_of places core ≡ get_or places core None =
    unwrap_or-slice_get places core None in
    elim (cases_lt core (length places)) [
      | inl there ↦
          list_any_at (sits_on ni seat) places core None there
          (ap (sits_on ni seat) (sym at) ∙ sits)
      | inr past ↦
          absurd (both_ways (sits_on ni seat (seat_of places core))
          (ap (sits_on ni seat) (at ∙ get_or_past places core None past)) sits)
    ]

-- A core sits on its own seat and on no other.
pub sits_on-own : (ni : NiId) (seat : ℕ) → sits_on ni.0 seat (Some (ni, seat)) ≡ true
sits_on-own ni seat = and_from _ _ (eq-eqb ni.0 ni.0 refl) (eq-eqb seat seat refl)

pub sits_on-parts : (place : Place) (ni seat : ℕ) → sits_on ni seat (Some place) ≡ true
    → (place.0.0 ≡ ni) × (place.1 ≡ seat)
sits_on-parts place ni seat sits =
    let (same, level) = and_parts _ _ sits in (eqb-true _ _ same, eqb-true _ _ level)

pub sits_on-away : (place : Place) (ni seat : ℕ)
    → ((place.0.0 ≡ ni) × (place.1 ≡ seat) → ⊥) → sits_on ni seat (Some place) ≡ false
sits_on-away place ni seat away = elim (cases_Bool (sits_on ni seat (Some place))) [
  | inl sits ↦ absurd (away (sits_on-parts place ni seat sits))
  | inr not_there ↦ not_there
]

-- A core that has no seat gives none back.
pub taken_back-none : (places : List (Option Place)) (core : ℕ) → seat_of places core ≡ None
    → set places core None ≡ places
taken_back-none places core none =
    ap (set places core) (sym none ∙ unwrap_or-slice_get places core None)
    ∙ set-get_or places core None

-- Where no core has a seat, none is taken.
pub none-taken : (n ni seat : ℕ) → is_taken (replicate n None) ni seat ≡ false
none-taken n ni seat = list_any_none (sits_on ni seat) (replicate n None) (λ c d within.
    let low : c < n = rw length-replicate at within in
    ap (sits_on ni seat) (get_or-replicate n c None d low))

-- A list in which nothing stands at any place.
abbrev pub nothing : (X : Type 0) → ℕ → List (Option X)
nothing X n = replicate n None

pub length-nothing : (X : Type 0) (n : ℕ) → length (nothing X n) ≡ n
length-nothing X n = length-replicate n None

pub none-there : (X : Type 0) (n c : ℕ) → unwrap_or (slice_get (nothing X n) c) None ≡ None
none-there X n c =
    unwrap_or-slice_get (replicate n None) c None ∙ elim (cases_lt c n) [
      | inl within ↦ get_or-replicate n c None None within
      | inr past ↦ get_or_past (replicate n None) c None (rw length-replicate past)
    ]
