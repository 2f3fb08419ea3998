-- Lists in the order of a dictionary: those behind elements in order, one element after the other.
use Rattle.std.proofs.Common.{◌≡◌, ◌∙◌, ◌+◌, ◌<◌, ◌++◌, ℕ, zero, suc, List, [], ◌∷◌, Contains, ap}
use Rattle.std.proofs.Common.{arith, map, refl, subst, sym}
use Rattle.std.proofs.lemmas.Cmp.{tied_itself}
use Rattle.std.specs.List.{AllByRecursion, flat_map, range_with_len, Sorted.IsStrictlySortedBy}
use Rattle.std.specs.Cmp.{IsTotalOrder, nat_cmp_is, Lexicographic.slice_cmp}
use Rattle.std.specs.Ordering.{nat_cmp, on, ordering_then}
use Rattle.std.specs.declared.cmp.Ordering.{Ordering, TheVariants.Less}

-- What holds of all of a list holds of each of it.
each-of : {X : Type 0} (P : X → Type 0) (xs : List X) (x : X) → AllByRecursion P xs
    → Contains xs x → P x
each-of P [] x all (k, low, at) = absurd (omega (arith, low))
each-of P (y ∷ xs) x all (zero, low, at) = subst P at all.0
each-of P (y ∷ xs) x all (suc k, low, at) = each-of P xs x all.1 (k, omega (arith, low), at)

all-append : {X : Type 0} (P : X → Type 0) (xs ys : List X) → AllByRecursion P xs
    → AllByRecursion P ys → AllByRecursion P (xs ++ ys)
all-append P [] ys first others = others
all-append P (x ∷ xs) ys first others = (first.0, all-append P xs ys first.1 others)

all-map : {X Y : Type 0} (f : X → Y) (P : Y → Type 0) (xs : List X) → ((x : X) → P (f x))
    → AllByRecursion P (map f xs)
all-map f P [] holds = tt
all-map f P (x ∷ xs) holds = (holds x, all-map f P xs holds)

all-with : {X : Type 0} (P Q : X → Type 0) (xs : List X) → ((x : X) → P x → Q x)
    → AllByRecursion P xs → AllByRecursion Q xs
all-with P Q [] on all = tt
all-with P Q (x ∷ xs) on all = (on x all.0, all-with P Q xs on all.1)

module _ {K : Type 0} (c : K → K → Ordering) where
  -- The first of a list in order comes before all others.
  pub first-before : (x y : K) (xs : List K) → IsStrictlySortedBy c (x ∷ xs) → Contains xs y
      → c x y ≡ Less
  unfolding IsStrictlySortedBy
  first-before x y xs sorted has = each-of (λ z. c x z ≡ Less) xs y sorted.0 has

  -- Two lists in order, of which all of the one come before all of the other.
  sorted-append : (xs ys : List K) → IsStrictlySortedBy c xs → IsStrictlySortedBy c ys
      → AllByRecursion (λ x. AllByRecursion (λ y. c x y ≡ Less) ys) xs
      → IsStrictlySortedBy c (xs ++ ys)
  unfolding IsStrictlySortedBy
  sorted-append [] ys first others before = others
  sorted-append (x ∷ xs) ys first others before = (
    all-append (λ y. c x y ≡ Less) xs ys first.0 before.0,
    sorted-append xs ys first.1 others before.1,
  )

module _ {K : Type 0} (c : K → K → Ordering) (total : IsTotalOrder c) where
  -- A list begins with an element that another comes before.
  abbrev Behind : K → List K → Type 0
  Behind k [] = ⊥
  Behind k (first ∷ rest) = c k first ≡ Less

  behind-less : (k : K) (rest other : List K) → Behind k other → slice_cmp c (k ∷ rest) other ≡ Less
  behind-less k rest [] behind = absurd behind
  behind-less k rest (first ∷ others) behind =
      ap (λ o. ordering_then o (slice_cmp c rest others)) behind

  all-behind : (k : K) (f : K → List (List K)) (ks : List K)
      → AllByRecursion (λ y. c k y ≡ Less) ks
      → AllByRecursion (Behind k) (flat_map (λ y. map (λ rest. y ∷ rest) (f y)) ks)
  all-behind k f [] before = tt
  all-behind k f (y ∷ ks) before =
      all-append (Behind k) (map (λ rest. y ∷ rest) (f y))
      (flat_map (λ z. map (λ rest. z ∷ rest) (f z)) ks)
      (all-map (λ rest. y ∷ rest) (Behind k) (f y) (λ rest. before.0))
      (all-behind k f ks before.1)

  -- Lists in order stay so behind one element.
  one-less : (k : K) (rest other : List K) → slice_cmp c rest other ≡ Less
      → slice_cmp c (k ∷ rest) (k ∷ other) ≡ Less
  one-less k rest other less =
      ap (λ o. ordering_then o (slice_cmp c rest other)) (tied_itself total k) ∙ less

  first-one : (k : K) (rest : List K) (lists : List (List K))
      → AllByRecursion (λ other. slice_cmp c rest other ≡ Less) lists
      → AllByRecursion (λ other. slice_cmp c (k ∷ rest) other ≡ Less)
      (map (λ other. k ∷ other) lists)
  first-one k rest [] before = tt
  first-one k rest (other ∷ lists) before =
      (one-less k rest other before.0, first-one k rest lists before.1)

  sorted-one : (k : K) (lists : List (List K)) → IsStrictlySortedBy (slice_cmp c) lists
      → IsStrictlySortedBy (slice_cmp c) (map (λ rest. k ∷ rest) lists)
  unfolding IsStrictlySortedBy
  sorted-one k [] sorted = tt
  sorted-one k (rest ∷ lists) sorted =
      (first-one k rest lists sorted.0, sorted-one k lists sorted.1)

  -- The lists behind elements in order are in order, where those behind each are.
  pub sorted-behind : (f : K → List (List K)) (ks : List K) → IsStrictlySortedBy c ks
      → ((k : K) → IsStrictlySortedBy (slice_cmp c) (f k))
      → IsStrictlySortedBy (slice_cmp c) (flat_map (λ k. map (λ rest. k ∷ rest) (f k)) ks)
  unfolding IsStrictlySortedBy
  sorted-behind f [] sorted each = tt
  sorted-behind f (k ∷ ks) sorted each =
      let others : List (List K) = flat_map (λ y. map (λ rest. y ∷ rest) (f y)) ks in
      sorted-append (slice_cmp c) (map (λ rest. k ∷ rest) (f k)) others
      (sorted-one k (f k) (each k)) (sorted-behind f ks sorted.1 each)
      (all-map (λ rest. k ∷ rest) (λ list. AllByRecursion (λ other. slice_cmp c list other ≡ Less) others)
      (f k) (λ rest.
      all-with (Behind k) (λ other. slice_cmp c (k ∷ rest) other ≡ Less) others
      (λ other. behind-less k rest other) (all-behind k f ks sorted.0)))

  -- So are they with the empty list before them.
  pub sorted-empty : (f : K → List (List K)) (ks : List K) → IsStrictlySortedBy c ks
      → ((k : K) → IsStrictlySortedBy (slice_cmp c) (f k))
      → IsStrictlySortedBy (slice_cmp c) ([] ∷ flat_map (λ k. map (λ rest. k ∷ rest) (f k)) ks)
  unfolding IsStrictlySortedBy
  sorted-empty f ks sorted each = (empty-first f ks, sorted-behind f ks sorted each)
    where
      empty-first : (f : K → List (List K)) (ks : List K)
          → AllByRecursion (λ other. slice_cmp c [] other ≡ Less)
          (flat_map (λ k. map (λ rest. k ∷ rest) (f k)) ks)
      empty-first f [] = tt
      empty-first f (k ∷ ks) =
          all-append (λ other. slice_cmp c [] other ≡ Less) (map (λ rest. k ∷ rest) (f k))
          (flat_map (λ y. map (λ rest. y ∷ rest) (f y)) ks)
          (all-map (λ rest. k ∷ rest) (λ other. slice_cmp c [] other ≡ Less) (f k) (λ rest. refl))
          (empty-first f ks)

-- ---- numbers

-- Elements made of numbers in order are in order.
module _ {K : Type 0} (number : K → ℕ) (of : ℕ → K) (back : (n : ℕ) → number (of n) ≡ n) where
  less-of : (a b : ℕ) → nat_cmp a b ≡ Less → nat_cmp (number (of a)) (number (of b)) ≡ Less
  less-of a b less =
      ap (λ n. nat_cmp n (number (of b))) (back a) ∙ ap (nat_cmp a) (back b) ∙ less

  all-of : (a : ℕ) (ns : List ℕ) → AllByRecursion (λ b. nat_cmp a b ≡ Less) ns
      → AllByRecursion (λ k. nat_cmp (number (of a)) (number k) ≡ Less) (map of ns)
  all-of a [] before = tt
  all-of a (b ∷ ns) before = (less-of a b before.0, all-of a ns before.1)

  pub sorted-of : (ns : List ℕ) → IsStrictlySortedBy nat_cmp ns
      → IsStrictlySortedBy (on number nat_cmp) (map of ns)
  unfolding IsStrictlySortedBy
  sorted-of [] sorted = tt
  sorted-of (n ∷ ns) sorted = (all-of n ns sorted.0, sorted-of ns sorted.1)

-- The lesser number comes first.
pub less-is : (a b : ℕ) → a < b → nat_cmp a b ≡ Less
less-is a b less = sym (nat_cmp_is a b Less less)

range-from : (a start size : ℕ) → a < start
    → AllByRecursion (λ b. nat_cmp a b ≡ Less) (range_with_len start size)
range-from a start zero low = tt
range-from a start (suc size) low =
    (less-is a start low, range-from a (start + 1) size (omega (arith, low)))

-- Numbers one after the other are in order.
pub sorted-range : (start size : ℕ) → IsStrictlySortedBy nat_cmp (range_with_len start size)
unfolding IsStrictlySortedBy
sorted-range start zero = tt
sorted-range start (suc size) =
    (range-from start (start + 1) size (omega arith), sorted-range (start + 1) size)
