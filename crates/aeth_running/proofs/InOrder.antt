-- Lists in the order of a number, what of them is below a number, and what filters keep.
use Rattle.std.proofs.Common.{◌≡◌, ◌≤◌, ◌∙◌, ℕ, ◌+◌, ◌-◌, Bool, true, List, [], ◌∷◌, ◌++◌, Some}
use Rattle.std.proofs.Common.{drop, filter, length, map, min, slice_get, take, refl, sym, ap, inl}
use Rattle.std.proofs.Common.{inr, arith, ◌==◌, ◌&&◌, nat_le, nat_lt, eq-eqb, le-leb, le-ltb}
use Rattle.std.proofs.Common.{lt-ltb, ltb-true, ne_eqb}
use Rattle.std.proofs.lemmas.Bool.{cases_Bool, cases_lt, cases_order, lt-leb}
use Rattle.std.proofs.lemmas.List.{Elements.filter_passes, Kept.IsNonDecreasingBy-filter}
use Rattle.std.proofs.lemmas.Option.{get_or_from_slice_get, slice_get_within}
use Rattle.std.specs.List.Sorted.{IsNonDecreasingBy}
use Rattle.aeth_stimuli.proofs.WordWindows.{below-none}
use Rattle.aeth_trace.proofs.OrderLemmas.{first_least, later_rise}
use Rattle.aeth_report.proofs.ListOrder.{early-first, early-within}

-- What a filter keeps passes the test.
pub passes-at : {X : Type 0} (test : X → Bool) (xs : List X) (i : ℕ) (x : X)
    → slice_get (filter test xs) i ≡ Some x → test x ≡ true
passes-at test xs i x at =
    let kept = filter test xs in
    ap test (sym (get_or_from_slice_get kept i x x at))
    ∙ filter_passes test xs i x (slice_get_within kept i x at)

-- A filter whose items pass another test anyway.
pub filter-within : {X : Type 0} (p q : X → Bool) → ((x : X) → p x ≡ true → q x ≡ true)
    → (xs : List X) → filter p (filter q xs) ≡ filter p xs
filter-within p q passes [] = refl
filter-within {X} p q passes (x ∷ xs) =
    let rest = filter-within p q passes xs in
    elim (cases_Bool (p x)) [
      | inl one ↦
          let two = passes x one in
          rw (two, one) (ap (λ (ys : List X). x ∷ ys) rest)
      | inr one ↦ elim (cases_Bool (q x)) [
        | inl two ↦ rw (two, one) rest
        | inr two ↦ rw (two, one) rest
      ]
    ]

-- What a filter keeps is shown in the same way where the test passes.
pub map-kept : {X Y : Type 0} (f g : X → Y) (test : X → Bool) (xs : List X)
    → ((x : X) → test x ≡ true → f x ≡ g x) → map f (filter test xs) ≡ map g (filter test xs)
map-kept f g test [] same = refl
map-kept {X} {Y} f g test (x ∷ xs) same =
    let rest = map-kept f g test xs same in
    elim (cases_Bool (test x)) [
      | inl is ↦ rw is ((λ q. same x is q ∷ map f (filter test xs))
          ∙ ap (λ (ys : List Y). g x ∷ ys) rest)
      | inr isnt ↦ rw isnt rest
    ]

module _ {X : Type 0} (number : X → ℕ) where
  -- Whether an item is below a number.
  abbrev pub below : ℕ → X → Bool
  below t x = nat_lt (number x) t

  -- What is below the next number.
  pub below-next : (t : ℕ) (xs : List X) → IsNonDecreasingBy number xs
      → filter (below (t + 1)) xs ≡ filter (below t) xs ++ filter (λ x. number x == t) xs
  below-next t [] order = refl
  below-next t (x ∷ xs) order =
      let rest = below-next t xs (later_rise number x xs order) in
      elim (cases_order (number x) t) [
        | inl same ↦
            let least = first_least number x xs order in
            let none = below-none number t xs (λ k d within. let up = least k d within in omega arith) in
            let here = filter (λ y. number y == t) xs in
            rw (
              lt-ltb (number x) (t + 1) (omega arith),
              le-ltb (number x) t (omega arith),
              eq-eqb (number x) t same,
              none,
            ) (ap (λ (ys : List X). x ∷ ys) (rest ∙ ap (λ (ys : List X). ys ++ here) none))
        | inr (inl less) ↦ rw (
          lt-ltb (number x) (t + 1) (omega arith),
          lt-ltb (number x) t less,
          ne_eqb (number x) t (λ e. absurd (omega arith)),
        ) (ap (λ (ys : List X). x ∷ ys) rest)
        | inr (inr more) ↦ rw (
          le-ltb (number x) (t + 1) (omega arith),
          le-ltb (number x) t (omega arith),
          ne_eqb (number x) t (λ e. absurd (omega arith)),
        ) rest
      ]

  -- What is below a number is below each greater one.
  pub below-wider : (a b : ℕ) (xs : List X) → a ≤ b
      → filter (below a) (filter (below b) xs) ≡ filter (below a) xs
  below-wider a b xs less =
      filter-within (below a) (below b) (λ x is.
      let under = ltb-true (number x) a is in lt-ltb (number x) b (omega (arith, under, less))) xs

  -- What isn't below it is what follows.
  pub rest-behind : (t : ℕ) (xs : List X) → IsNonDecreasingBy number xs
      → filter (λ x. nat_le t (number x)) xs ≡ drop (length (filter (below t) xs)) xs
  rest-behind t [] order = refl
  rest-behind t (x ∷ xs) order = elim (cases_lt (number x) t) [
    | inl less ↦ rw (lt-ltb (number x) t less, lt-leb t (number x) less)
        (rest-behind t xs (later_rise number x xs order))
    | inr more ↦
        let least = first_least number x xs order in
        let none = below-none number t xs (λ k d within. let up = least k d within in omega arith) in
        let rest = rest-behind t xs (later_rise number x xs order) in
        rw (le-ltb (number x) t more, le-leb t (number x) more, none)
        (ap (λ (ys : List X). x ∷ ys) (rest ∙ ap (λ (ys : List X). drop (length ys) xs) none))
  ]

  -- How many are from a number on and below another.
  abbrev pub between : ℕ → ℕ → List X → ℕ
  between a b xs = length (filter (below b) (filter (λ x. nat_le a (number x)) xs))

  between-up : (a b : ℕ) (xs : List X) → a ≤ b
      → between a b xs + length (filter (below a) xs) ≡ length (filter (below b) xs)
  between-up a b [] up = omega arith
  between-up a b (x ∷ xs) up =
      let rest = between-up a b xs up in
      elim (cases_lt (number x) a) [
        | inl less ↦ rw (
          lt-leb a (number x) less,
          lt-ltb (number x) a less,
          lt-ltb (number x) b (omega arith),
        ) (omega arith)
        | inr more ↦ elim (cases_lt (number x) b) [
          | inl within ↦ rw (
            le-leb a (number x) more,
            le-ltb (number x) a more,
            lt-ltb (number x) b within,
          ) (omega arith)
          | inr past ↦ rw (
            le-leb a (number x) more,
            le-ltb (number x) a more,
            le-ltb (number x) b past,
          ) rest
        ]
      ]

  between-down : (a b : ℕ) (xs : List X) → b ≤ a
      → (between a b xs ≡ 0) × (length (filter (below b) xs) ≤ length (filter (below a) xs))
  between-down a b [] down = (refl, omega arith)
  between-down a b (x ∷ xs) down =
      let (none, fewer) = between-down a b xs down in
      elim (cases_lt (number x) b) [
        | inl less ↦ rw (
          lt-leb a (number x) (omega arith),
          lt-ltb (number x) a (omega arith),
          lt-ltb (number x) b less,
        ) (none, omega arith)
        | inr past ↦ elim (cases_lt (number x) a) [
          | inl within ↦ rw (
            lt-leb a (number x) within,
            lt-ltb (number x) a within,
            le-ltb (number x) b past,
          ) (none, omega arith)
          | inr more ↦ rw (
            le-leb a (number x) more,
            le-ltb (number x) a more,
            le-ltb (number x) b past,
          ) (none, fewer)
        ]
      ]

  -- The count of the ones is the difference of two counts.
  pub between-count : (a b : ℕ) (xs : List X)
      → between a b xs ≡ length (filter (below b) xs) - length (filter (below a) xs)
  between-count a b xs = elim (cases_lt a b) [
    | inl up ↦ let all = between-up a b xs (omega arith) in omega arith
    | inr down ↦ let (none, fewer) = between-down a b xs down in omega arith
  ]

  -- Those of a list in order stand side by side.
  pub between-are : (a b : ℕ) (xs : List X) → IsNonDecreasingBy number xs
      → take (length (filter (below b) xs) - length (filter (below a) xs))
      (drop (length (filter (below a) xs)) xs)
      ≡ filter (below b) (filter (λ x. nat_le a (number x)) xs)
  between-are a b xs order =
      let behind = rest-behind a xs order in
      let sorted = IsNonDecreasingBy-filter number (λ x. nat_le a (number x)) xs order in
      ap (λ (ys : List X). take (length (filter (below b) xs) - length (filter (below a) xs)) ys)
      (sym behind)
      ∙ ap (λ n. take n (filter (λ x. nat_le a (number x)) xs)) (sym (between-count a b xs))
      ∙ sym (early-first number b (filter (λ x. nat_le a (number x)) xs) sorted)

  -- Behind what is below a number nothing is.
  pub past-below : (t : ℕ) (xs : List X) → IsNonDecreasingBy number xs → (j : ℕ) (x : X)
      → slice_get xs j ≡ Some x → length (filter (below t) xs) ≤ j → t ≤ number x
  past-below t xs order j x at past = elim (cases_lt (number x) t) [
    | inl less ↦
        let within = early-within number t xs j x order at less in
        absurd (omega (arith, within, past))
    | inr more ↦ more
  ]

  -- Those from a number on and below two others.
  pub below-both : (a b c : ℕ) (xs : List X)
      → filter (below (min b c)) (filter (λ x. nat_le a (number x)) xs)
      ≡ filter (below c) (filter (λ x. nat_le a (number x) && nat_lt (number x) b) xs)
  below-both a b c [] = refl
  below-both a b c (x ∷ xs) =
      let rest = below-both a b c xs in
      elim (cases_lt (number x) a) [
        | inl less ↦ rw (lt-leb a (number x) less) rest
        | inr more ↦ elim (cases_lt (number x) b) [
          | inr past ↦ rw (
            le-leb a (number x) more,
            le-ltb (number x) b past,
            le-ltb (number x) (min b c) (omega arith),
          ) rest
          | inl within ↦ elim (cases_lt (number x) c) [
            | inl inside ↦ rw (
              le-leb a (number x) more,
              lt-ltb (number x) b within,
              lt-ltb (number x) (min b c) (omega arith),
              lt-ltb (number x) c inside,
            ) (ap (λ (ys : List X). x ∷ ys) rest)
            | inr outside ↦ rw (
              le-leb a (number x) more,
              lt-ltb (number x) b within,
              le-ltb (number x) (min b c) (omega arith),
              le-ltb (number x) c outside,
            ) rest
          ]
        ]
      ]
