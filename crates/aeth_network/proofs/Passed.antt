-- Rows whose cycles don't fall: those before a cycle come first, and those of a cycle next to them.
use Rattle.std.proofs.Common.{◌≡◌, ◌<◌, ◌≤◌, ◌↔◌, ◌+◌, ◌-◌, ◌==◌, ◌∙◌, ℕ, Bool, zero, suc, length}
use Rattle.std.proofs.Common.{take, drop, filter, refl, ap, arith, inl, inr, nat_lt, true, List, []}
use Rattle.std.proofs.Common.{◌∷◌, Some, false, get_or, slice_get, sym, All, IsTrue, slice_range}
use Rattle.std.proofs.Common.{lt-ltb}
use Rattle.std.proofs.lemmas.Bool.{cases_lt, Decides.nat_tests}
use Rattle.std.proofs.lemmas.List.Elements.{All-cons, All-head, All-nil, All-tail, All-weaker}
use Rattle.std.proofs.lemmas.List.Elements.{All-get_or}
use Rattle.std.proofs.lemmas.List.Sums.{length-filter, count_by-le-length}
use Rattle.std.proofs.lemmas.Option.{get_or_from_slice_get, slice_get_within}
use Rattle.std.specs.List.Sorted.{IsNonDecreasingBy}
use Rattle.aeth_trace.proofs.OrderLemmas.{first_least, later_rise}
use Rattle.aeth_network.specs.Behind.{IsBehind, passed}

-- None lies before a cycle that is above none.
none-passed : {X : Type 0} (key : X → ℕ) (cycle : ℕ) (xs : List X) → All (λ y. cycle ≤ key y) xs
    → passed key cycle xs ≡ 0
none-passed key cycle [] above = refl
none-passed key cycle (x ∷ xs) above =
    let here : cycle ≤ key x = All-head (λ y. cycle ≤ key y) x xs above in
    let later = none-passed key cycle xs (All-tail (λ y. cycle ≤ key y) x xs above) in
    grind (arith, nat_tests)

-- One more lies before a cycle if the first does.
passed-yes : {X : Type 0} (key : X → ℕ) (cycle : ℕ) (x : X) (xs : List X) → key x < cycle
    → passed key cycle (x ∷ xs) ≡ suc (passed key cycle xs)
passed-yes key cycle x xs low = grind (arith, nat_tests)

-- Before the first cycle there is none.
pub passed-first : {X : Type 0} (key : X → ℕ) (xs : List X) → passed key 0 xs ≡ 0
passed-first key xs = none-passed key 0 xs (λ k d within. omega arith)

-- As many as there are at most, and not fewer before the next cycle.
pub passed-few : {X : Type 0} (key : X → ℕ) (cycle : ℕ) (xs : List X)
    → passed key cycle xs ≤ length xs
passed-few key cycle xs = rw (length-filter (λ y. nat_lt (key y) cycle) xs)
    (count_by-le-length (λ y. nat_lt (key y) cycle) xs)

pub passed-more : {X : Type 0} (key : X → ℕ) (cycle : ℕ) (xs : List X)
    → passed key cycle xs ≤ passed key (cycle + 1) xs
passed-more key cycle [] = omega arith
passed-more key cycle (x ∷ xs) =
    let later = passed-more key cycle xs in
    grind (arith, nat_tests)

-- A row lies before a cycle just where its place does.
pub passed-at : {X : Type 0} (key : X → ℕ) (cycle : ℕ) (xs : List X) (k : ℕ) (d : X)
    → IsNonDecreasingBy key xs → k < length xs
    → (key (get_or xs k d) < cycle → k < passed key cycle xs)
    × (cycle ≤ key (get_or xs k d) → passed key cycle xs ≤ k)
passed-at key cycle [] k d rises within = absurd (omega arith)
passed-at key cycle (x ∷ xs) zero d rises within = (
  λ low. let more = passed-yes key cycle x xs low in omega arith,
  λ high.
      let none = none-passed key cycle (x ∷ xs) (All-cons (λ y. cycle ≤ key y) x xs high
      (All-weaker (λ y. key x ≤ key y) (λ y. cycle ≤ key y) (λ y le. omega arith) xs
      (first_least key x xs rises))) in
      omega arith,
)
passed-at key cycle (x ∷ xs) (suc k) d rises within =
    let later = passed-at key cycle xs k d (later_rise key x xs rises) (omega arith) in
    let least : key x ≤ key (get_or xs k d) =
    All-get_or (λ y. key x ≤ key y) xs k d (omega arith) (first_least key x xs rises) in (
      λ low.
          let rest = later.0 low in
          let more = passed-yes key cycle x xs (omega arith) in
          omega arith,
      λ high.
          let rest = later.1 high in
          grind (arith, nat_tests),
    )

-- The same of a row that is known to stand there.
pub passed-of : {X : Type 0} (key : X → ℕ) (cycle : ℕ) (xs : List X) (k : ℕ) (x : X)
    → IsNonDecreasingBy key xs → slice_get xs k ≡ Some x
    → (key x < cycle → k < passed key cycle xs) × (cycle ≤ key x → passed key cycle xs ≤ k)
passed-of key cycle xs k x rises at =
    rw (get_or_from_slice_get xs k x x at)
    at (passed-at key cycle xs k x rises (slice_get_within xs k x at))

-- A test of a row's cycle is one of its place, also where no row stands there.
pub passed-test : {X : Type 0} (key : X → ℕ) (cycle : ℕ) (xs : List X) (k : ℕ) (d : X)
    → IsNonDecreasingBy key xs → k < length xs → (own limit : ℕ) → own ≡ key (get_or xs k d)
    → limit ≡ cycle → IsTrue (nat_lt own limit) ↔ (k < passed key cycle xs)
passed-test key cycle xs k d rises within own limit is same =
    let at = passed-at key cycle xs k d rises within in (
      (λ yes. let less : own < limit = grind (arith, nat_tests) in at.0 (omega arith)),
      (λ has. elim (cases_lt own limit) [
        | inl less ↦ lt-ltb own limit less
        | inr more ↦ let past = at.1 (omega arith) in absurd (omega arith)
      ]),
    )

pub passed-past : {X : Type 0} (key : X → ℕ) (cycle : ℕ) (xs : List X) (k : ℕ) → length xs ≤ k
    → IsTrue false ↔ (k < passed key cycle xs)
passed-past key cycle xs k past =
    let few = passed-few key cycle xs in ((λ is. absurd (cc is)), (λ has. absurd (omega arith)))

-- Where a place lies before a cycle a row stands there, and fewer are left behind it.
pub passed-left : {X : Type 0} (key : X → ℕ) (cycle : ℕ) (xs : List X) (k : ℕ)
    → k < passed key cycle xs → (k < length xs) × (length xs - (k + 1) < length xs - k)
passed-left key cycle xs k before =
    let few = passed-few key cycle xs in (omega arith, omega arith)

-- A test of an order that fails.
pub past-test : {test : Bool} {a b : ℕ} → IsTrue test ↔ (a < b) → test ≡ false → b ≤ a
past-test {a = a} {b = b} exact fails = elim (cases_lt a b) [
  | inl less ↦ let holds = exact.1 less in absurd (cc (sym holds ∙ fails))
  | inr past ↦ past
]

-- Those behind the ones before a cycle aren't before it.
pub passed-behind : {X : Type 0} (key : X → ℕ) (cycle : ℕ) (xs : List X)
    → IsNonDecreasingBy key xs → All (λ y. cycle ≤ key y) (drop (passed key cycle xs) xs)
passed-behind key cycle [] rises = All-nil (λ y. cycle ≤ key y)
passed-behind key cycle (x ∷ xs) rises =
    elim (cases_lt (key x) cycle) [
      | inl low ↦
          rw (passed-yes key cycle x xs low)
          (passed-behind key cycle xs (later_rise key x xs rises))
      | inr high ↦
          let above = All-cons (λ y. cycle ≤ key y) x xs high
          (All-weaker (λ y. key x ≤ key y) (λ y. cycle ≤ key y) (λ y le. omega arith) xs
          (first_least key x xs rises)) in
          rw (none-passed key cycle (x ∷ xs) above) above
    ]

-- Those of a cycle stand side by side.
pub passed-range : {X : Type 0} (key : X → ℕ) (cycle : ℕ) (xs : List X) → IsNonDecreasingBy key xs
    → slice_range xs (passed key cycle xs) (passed key (cycle + 1) xs)
    ≡ filter (λ y. key y == cycle) xs
passed-range key cycle [] rises = refl
passed-range {X} key cycle (x ∷ xs) rises =
    let rest = passed-range key cycle xs (later_rise key x xs rises) in
    let least = first_least key x xs rises in
    elim (cases_lt (key x) cycle) [
      | inl low ↦
          let now = passed-yes key cycle x xs low in
          let then = passed-yes key (cycle + 1) x xs (omega arith) in
          let other : (key x == cycle) ≡ false = grind (arith, nat_tests) in
          let size : suc (passed key (cycle + 1) xs) - suc (passed key cycle xs)
          ≡ passed key (cycle + 1) xs - passed key cycle xs = omega arith in
          rw (now, then, other, size) rest
      | inr high ↦
          let above : All (λ y. cycle ≤ key y) xs =
          All-weaker (λ y. key x ≤ key y) (λ y. cycle ≤ key y) (λ y le. omega arith) xs least in
          let none = none-passed key cycle (x ∷ xs) (All-cons (λ y. cycle ≤ key y) x xs high above) in
          let none_later = none-passed key cycle xs above in
          elim (cases_lt cycle (key x)) [
            | inl past ↦
                let all : All (λ y. cycle + 1 ≤ key y) xs =
                All-weaker (λ y. key x ≤ key y) (λ y. cycle + 1 ≤ key y) (λ y le. omega arith) xs
                least in
                let none_then = none-passed key (cycle + 1) (x ∷ xs)
                (All-cons (λ y. cycle + 1 ≤ key y) x xs (omega arith) all) in
                let none_there = none-passed key (cycle + 1) xs all in
                let other : (key x == cycle) ≡ false = grind (arith, nat_tests) in
                let empty : [] ≡ filter (λ y. key y == cycle) xs =
                rw (none_later, none_there) at rest in
                rw (none, none_then, other) empty
            | inr low ↦
                let then = passed-yes key (cycle + 1) x xs (omega arith) in
                let same : (key x == cycle) ≡ true = grind (arith, nat_tests) in
                let size : suc (passed key (cycle + 1) xs) - 0 ≡ suc (passed key (cycle + 1) xs) =
                omega arith in
                let less : passed key (cycle + 1) xs - 0 ≡ passed key (cycle + 1) xs =
                omega arith in
                let tail : take (passed key (cycle + 1) xs) xs ≡ filter (λ y. key y == cycle) xs =
                rw (none_later, less) at rest in
                rw (none, then, same, size) (ap (λ (list : List X). x ∷ list) tail)
          ]
    ]

-- A row of a cycle isn't the last before the next one.
pub passed-inside : {X : Type 0} (key : X → ℕ) (cycle : ℕ) (xs : List X) (place : ℕ) (d : X)
    → IsNonDecreasingBy key xs → place < length xs → key (get_or xs place d) ≡ cycle
    → place + 1 ≤ passed key (cycle + 1) xs
passed-inside key cycle xs place d rises within now =
    let low = (passed-at key (cycle + 1) xs place d rises within).0 (omega arith) in
    omega arith

-- Behind the rows of a cycle there is none, or one of a later cycle.
module _ {X : Type 0} (key : X → ℕ) (cycle : ℕ) (xs : List X) (from place : ℕ)
    (rises : IsNonDecreasingBy key xs) (begin : from ≡ passed key cycle xs)
    (least : passed key cycle xs ≤ place) (most : place ≤ passed key (cycle + 1) xs) where
  behind-at : place ≡ passed key (cycle + 1) xs → IsBehind key cycle xs from place
  behind-at is =
      let few = passed-few key (cycle + 1) xs in
      record {
        place = is;
        after = omega arith;
        within = omega arith;
        rows_are = rw (begin, is) (passed-range key cycle xs rises);
      }

  pub behind-last : length xs ≤ place → IsBehind key cycle xs from place
  behind-last past =
      let few = passed-few key (cycle + 1) xs in
      behind-at (omega arith)

  pub behind-other : (d : X) → place < length xs → (key (get_or xs place d) ≡ cycle → ⊥)
      → IsBehind key cycle xs from place
  behind-other d within other =
      let now = passed-at key cycle xs place d rises within in
      let next = passed-at key (cycle + 1) xs place d rises within in
      elim (cases_lt (key (get_or xs place d)) cycle) [
        | inl low ↦ let before = now.0 low in absurd (omega arith)
        | inr high ↦ elim (cases_lt cycle (key (get_or xs place d))) [
          | inl past ↦ let behind = next.1 (omega arith) in behind-at (omega arith)
          | inr not_past ↦ absurd (other (omega arith))
        ]
      ]
