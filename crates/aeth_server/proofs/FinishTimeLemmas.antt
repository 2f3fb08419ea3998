-- Finish times leave room for each word and for those before it.
use Rattle.std.proofs.Common.{ℕ, ◌+◌, ◌-◌, ◌*◌, ◌<◌, ◌≤◌, ◌≡◌, ◌∙◌, zero, suc, List, [], ◌∷◌}
use Rattle.std.proofs.Common.{length, get_or, refl, ap, inl, inr, arith, lt-ltb, le-ltb}
use Rattle.std.proofs.Math.Nat.{mul-le-mul_left}
use Rattle.std.proofs.lemmas.Bool.{cases_lt}
use Rattle.std.specs.List.Sorted.{IsNonDecreasing}
use Rattle.aeth_base.proofs.Lists.{IsNonDecreasing-tail}
use Rattle.aeth_server.specs.FinishTimes.{arrivals_before, finish_time}

-- ---- arrivals

-- The first of numbers that never fall is the least.
first-least : (x : ℕ) (xs : List ℕ) → IsNonDecreasing (x ∷ xs) → (i : ℕ) → i < length xs
    → x ≤ get_or xs i 0
first-least x xs order i within = order 0 (suc i) 0 (omega arith) (omega arith)

-- Nothing arrives before the first cycle.
pub arrivals_before-none : (xs : List ℕ) → arrivals_before xs 0 ≡ 0
arrivals_before-none [] = refl
arrivals_before-none (x ∷ xs) = rw (le-ltb x 0 (omega arith)) (arrivals_before-none xs)

-- Whether the first word has arrived.
early-arrival : (x : ℕ) (xs : List ℕ) (t : ℕ) → x < t
    → arrivals_before (x ∷ xs) t ≡ suc (arrivals_before xs t)
early-arrival x xs t early = rw (lt-ltb x t early) refl

late-arrival : (x : ℕ) (xs : List ℕ) (t : ℕ) → t ≤ x
    → arrivals_before (x ∷ xs) t ≡ arrivals_before xs t
late-arrival x xs t late = rw (le-ltb x t late) refl

-- The count never falls.
pub arrivals_before-more : (xs : List ℕ) (s t : ℕ) → s ≤ t
    → arrivals_before xs s ≤ arrivals_before xs t
arrivals_before-more [] s t up = omega arith
arrivals_before-more (x ∷ xs) s t up =
    let rest = arrivals_before-more xs s t up in
    elim (cases_lt x s) [
      | inl early ↦
          omega (arith, rest, early-arrival x xs s early, early-arrival x xs t (omega arith))
      | inr late ↦ elim (cases_lt x t) [
        | inl between ↦ omega (arith, rest, late-arrival x xs s late, early-arrival x xs t between)
        | inr after ↦ omega (arith, rest, late-arrival x xs s late, late-arrival x xs t after)
      ]
    ]

-- None has arrived by the cycle of the first.
none-yet : (x : ℕ) (xs : List ℕ) (s : ℕ) → IsNonDecreasing (x ∷ xs) → s ≤ x
    → arrivals_before (x ∷ xs) s ≡ 0
none-yet x [] s order early = late-arrival x [] s early
none-yet x (y ∷ xs) s order early =
    let up = first-least x (y ∷ xs) order 0 (omega arith) in
    let rest = none-yet y xs s (IsNonDecreasing-tail x (y ∷ xs) order) (omega (arith, up)) in
    late-arrival x (y ∷ xs) s early ∙ rest

-- Up to the cycle of a word no more than those before it have arrived.
pub arrived-before : (xs : List ℕ) (s i : ℕ) → IsNonDecreasing xs → i < length xs
    → s ≤ get_or xs i 0 → arrivals_before xs s ≤ i
arrived-before [] s i order within early = absurd (omega arith)
arrived-before (x ∷ xs) s zero order within early = omega (arith, none-yet x xs s order early)
arrived-before (x ∷ xs) s (suc i) order within early =
    let rest = arrived-before xs s i (IsNonDecreasing-tail x xs order) (omega arith) early in
    elim (cases_lt x s) [
      | inl come ↦ omega (arith, rest, early-arrival x xs s come)
      | inr late ↦ omega (arith, rest, late-arrival x xs s late)
    ]

-- A word that hasn't arrived before s arrives at s or later.
pub arrives-later : (xs : List ℕ) (s i : ℕ) → IsNonDecreasing xs → i < length xs
    → arrivals_before xs s ≤ i → s ≤ get_or xs i 0
arrives-later [] s i order within few = absurd (omega arith)
arrives-later (x ∷ xs) s zero order within few = elim (cases_lt x s) [
  | inl early ↦ absurd (omega (arith, early-arrival x xs s early))
  | inr late ↦ late
]
arrives-later (x ∷ xs) s (suc i) order within few = elim (cases_lt x s) [
  | inl early ↦
      let fewer : arrivals_before xs s ≤ i = omega (arith, early-arrival x xs s early) in
      arrives-later xs s i (IsNonDecreasing-tail x xs order) (omega arith) fewer
  | inr late ↦ omega (arith, first-least x xs order i (omega arith))
]

-- A word has arrived after its cycle.
pub arrived-after : (xs : List ℕ) (i : ℕ) → IsNonDecreasing xs → i < length xs
    → i + 1 ≤ arrivals_before xs (get_or xs i 0 + 1)
arrived-after [] i order within = absurd (omega arith)
arrived-after (x ∷ xs) zero order within =
    omega (arith, early-arrival x xs (x + 1) (omega arith))
arrived-after (x ∷ xs) (suc i) order within =
    let least = first-least x xs order i (omega arith) in
    let rest = arrived-after xs i (IsNonDecreasing-tail x xs order) (omega arith) in
    omega (arith, rest, early-arrival x xs (get_or xs i 0 + 1) (omega arith))

-- ---- finish times
-- one more share of the table.
pub one-share : (a b size : ℕ) → a ≡ b + 1 → a * size ≡ b * size + size
one-share a b size next = rw next (omega arith)

module _ (size rate latency : ℕ) (arrivals : List ℕ) where
  abbrev finish : ℕ → ℕ
  finish i = finish_time size rate latency arrivals i

  abbrev arrived : ℕ → ℕ
  arrived s = arrivals_before arrivals s

  -- each word takes its share of the table
  pub finish-next : (i : ℕ) → finish i + size ≤ finish (suc i)
  finish-next i = omega arith

  -- and so do several
  pub finish-shares : (i n : ℕ) → finish i + n * size ≤ finish (i + n)
  finish-shares i zero =
      let none : i + 0 ≡ i = omega arith in
      let same = ap finish none in
      omega (arith, same)
  finish-shares i (suc n) =
      let last : i + suc n ≡ suc (i + n) = omega arith in
      let same = ap finish last in
      omega (arith, same, finish-shares i n, finish-next (i + n))

  -- a word that waits in cycle s finishes no sooner than a latency after s, with room for all that
  -- wait before it
  pub finish-leaves : IsNonDecreasing arrivals → (s i : ℕ) → i ≤ length arrivals → arrived s < i
      → rate * (s + latency) + (i - arrived s) * size ≤ finish i
  finish-leaves order s zero most few = absurd (omega arith)
  finish-leaves order s (suc i) most few = elim (cases_lt (arrived s) i) [
    | inl before ↦
        let rest = finish-leaves order s i (omega arith) before in
        let next : suc i - arrived s ≡ (i - arrived s) + 1 = omega arith in
        let share = one-share (suc i - arrived s) (i - arrived s) size next in
        omega (arith, rest, share, finish-next i)
    | inr here ↦
        let late = arrives-later arrivals s i order (omega arith) (omega arith) in
        let next : suc i - arrived s ≡ 0 + 1 = omega arith in
        let share = one-share (suc i - arrived s) 0 size next in
        let later : s + latency ≤ get_or arrivals i 0 + latency = omega arith in
        let waits : rate * (s + latency) ≤ rate * (get_or arrivals i 0 + latency) =
        mul-le-mul_left rate later in
        omega (arith, waits, share)
  ]
