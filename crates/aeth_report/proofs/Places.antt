-- Places of lists: of what the items of a list give one after the other, and of numbered lists.
use Rattle.std.proofs.Common.{◌≡◌, ◌≢◌, ◌⊎◌, ◌∙◌, ℕ, zero, suc, ◌+◌, List, [], ◌∷◌, ◌++◌, length}
use Rattle.std.proofs.Common.{take, Some, slice_get, refl, sym, ap, inl, inr, arith, append-nil}
use Rattle.std.proofs.Common.{length-append}
use Rattle.std.proofs.lemmas.{List.Concat.flat_map-cons, Option.same_Some}
use Rattle.std.specs.List.{enumerate_from, flat_map, range_with_len}

-- An item of one list behind another is in the one or in the other.
slice_get-append : {X : Type 0} (xs ys : List X) (n : ℕ) (y : X) → slice_get (xs ++ ys) n ≡ Some y
    → (slice_get xs n ≡ Some y) ⊎ ((m : ℕ) × (slice_get ys m ≡ Some y) × (length xs + m ≡ n))
slice_get-append [] ys n y at = inr (n, at, omega arith)
slice_get-append (x ∷ xs) ys zero y at = inl at
slice_get-append (x ∷ xs) ys (suc n) y at = elim (slice_get-append xs ys n y at) [
  | inl found ↦ inl found
  | inr found ↦ let number = found.2 in inr (found.0, found.1, omega arith)
]

-- Item number n of what all items give is item number `inner` of what the item at a place gives.
pub record IsGivenAt {X A : Type 0} (f : X → List A) (xs : List X) (n : ℕ) (y : A) : Type 0 where
  pub place : ℕ
  pub item : X
  pub inner : ℕ
  pub at : slice_get xs place ≡ Some item
  pub gives : slice_get (f item) inner ≡ Some y
  pub number : length (flat_map f (take place xs)) + inner ≡ n

-- So it is of each.
pub flat_map-place : {X A : Type 0} (f : X → List A) (xs : List X) (n : ℕ) (y : A)
    → slice_get (flat_map f xs) n ≡ Some y → IsGivenAt f xs n y
flat_map-place f [] n y at = absurd cc
flat_map-place f (x ∷ xs) n y at =
    elim (slice_get-append (f x) (flat_map f xs) n y (rw (flat_map-cons f x xs) at at)) [
      | inl found ↦
          record { place = 0; item = x; inner = n; at = refl; gives = found; number = omega arith }
      | inr found ↦
          let later = flat_map-place f xs found.0 y found.1 in
          let number = later.number in
          let ahead = found.2 in
          let before = take later.place xs in
          let len : length (flat_map f (x ∷ before)) ≡ length (f x) + length (flat_map f before) =
          ap length (flat_map-cons f x before) ∙ length-append (f x) (flat_map f before) in
          record {
            place = suc later.place;
            item = later.item;
            inner = later.inner;
            at = later.at;
            gives = later.gives;
            number = omega arith;
          }
    ]

-- The numbers of a range stand at their places.
pub range-place : (a n i x : ℕ) → slice_get (range_with_len a n) i ≡ Some x → a + i ≡ x
range-place a zero i x at = absurd cc
range-place a (suc n) zero x at = let same = same_Some a x at in omega arith
range-place a (suc n) (suc i) x at = let later = range-place (a + 1) n i x at in omega arith

module _ {X A : Type 0} (f : X → List A) where
  -- Where no item gives anything, nothing comes.
  pub flat_map-none : (xs : List X)
      → ((i : ℕ) (x : X) → slice_get xs i ≡ Some x → f x ≡ []) → flat_map f xs ≡ []
  flat_map-none [] never = refl
  flat_map-none (x ∷ xs) never =
      flat_map-cons f x xs
      ∙ ap (λ (ys : List A). ys ++ flat_map f xs) (never 0 x refl)
      ∙ flat_map-none xs (λ i. never (suc i))

  -- Where one item alone gives something, that comes.
  pub flat_map-sole : (xs : List X) (k : ℕ) (x : X) → slice_get xs k ≡ Some x
      → ((i : ℕ) (y : X) → slice_get xs i ≡ Some y → i ≢ k → f y ≡ []) → flat_map f xs ≡ f x
  flat_map-sole [] k x at never = absurd cc
  flat_map-sole (y ∷ ys) zero x at never =
      let rest = flat_map-none ys (λ i z is. never (suc i) z is (λ e. absurd (omega arith))) in
      flat_map-cons f y ys
      ∙ ap (λ (zs : List A). f y ++ zs) rest
      ∙ append-nil (f y) ∙ ap f (same_Some y x at)
  flat_map-sole (y ∷ ys) (suc k) x at never =
      flat_map-cons f y ys
      ∙ ap (λ (zs : List A). zs ++ flat_map f ys) (never 0 y refl (λ e. absurd (omega arith)))
      ∙ flat_map-sole ys k x at (λ i z is ne. never (suc i) z is (λ e. ne (omega arith)))

-- A place of a numbered list.
pub enumerate_from-place : {X : Type 0} (n : ℕ) (xs : List X) (i : ℕ) (place : ℕ × X)
    → slice_get (enumerate_from n xs) i ≡ Some place
    → (place.0 ≡ n + i) × (slice_get xs i ≡ Some place.1)
enumerate_from-place n [] i place at = absurd cc
enumerate_from-place {X} n (x ∷ xs) zero place at =
    let same : (n, x) ≡ place = same_Some (n, x) place at in
    (sym (ap (λ (p : ℕ × X). p.0) same) ∙ omega arith, ap (λ (p : ℕ × X). Some p.1) same)
enumerate_from-place n (x ∷ xs) (suc i) place at =
    let found = enumerate_from-place (n + 1) xs i place at in
    let number = found.0 in
    (omega arith, found.1)

-- And the other way round.
pub place-enumerate_from : {X : Type 0} (n : ℕ) (xs : List X) (i m : ℕ) (x : X) → n + i ≡ m
    → slice_get xs i ≡ Some x → slice_get (enumerate_from n xs) i ≡ Some (m, x)
place-enumerate_from n [] i m x is at = absurd cc
place-enumerate_from {X} n (y ∷ xs) zero m x is at =
    let number : n ≡ m = omega arith in
    ap (λ (z : X). Some (n, z)) (same_Some y x at) ∙ ap (λ (k : ℕ). Some (k, x)) number
place-enumerate_from n (y ∷ xs) (suc i) m x is at =
    place-enumerate_from (n + 1) xs i m x (omega arith) at
