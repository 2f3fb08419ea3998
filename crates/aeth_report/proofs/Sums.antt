-- Laws of sums and counts.
use Rattle.std.proofs.Common.{◌≡◌, ◌≤◌, ◌∙◌, ℕ, suc, ◌+◌, Bool, true, false, List, [], ◌∷◌}
use Rattle.std.proofs.Common.{Contains, Some, filter, slice_get, refl, inl, inr, arith}
use Rattle.std.proofs.lemmas.{Bool.cases_Bool, List.Sums.sum_by-cons}
use Rattle.std.specs.List.{count_by, list_any, sum_by}
use Rattle.aeth_base.proofs.Lists.{count_by-no, count_by-yes}
use Rattle.aeth_base.proofs.Members.{Contains-here, Contains-there}

-- The sum of the sums of two terms.
pub sum_by-plus : {X : Type 0} (f g : X → ℕ) (xs : List X)
    → sum_by (λ x. f x + g x) xs ≡ sum_by f xs + sum_by g xs
sum_by-plus f g [] = omega arith
sum_by-plus f g (x ∷ xs) =
    let both = sum_by-cons (λ x. f x + g x) x xs in
    let one = sum_by-cons f x xs in
    let other = sum_by-cons g x xs in
    let rest = sum_by-plus f g xs in
    omega arith

-- A sum of terms that are nothing.
pub sum_by-none : {X : Type 0} (f : X → ℕ) (xs : List X) → ((x : X) → f x ≡ 0)
    → sum_by f xs ≡ 0
sum_by-none f [] none = refl
sum_by-none f (x ∷ xs) none =
    let first = sum_by-cons f x xs in
    let here = none x in
    let rest = sum_by-none f xs none in
    omega arith

-- Terms that a test leaves out are nothing.
pub sum_by-filter : {X : Type 0} (f : X → ℕ) (test : X → Bool) (xs : List X)
    → ((i : ℕ) (x : X) → slice_get xs i ≡ Some x → test x ≡ false → f x ≡ 0)
    → sum_by f (filter test xs) ≡ sum_by f xs
sum_by-filter f test [] none = refl
sum_by-filter f test (x ∷ xs) none =
    let first = sum_by-cons f x xs in
    let rest = sum_by-filter f test xs (λ i. none (suc i)) in
    elim (cases_Bool (test x)) [
      | inl is ↦
          let here = sum_by-cons f x (filter test xs) in
          rw is (omega arith)
      | inr isnt ↦ let here = none 0 x refl isnt in rw isnt (omega arith)
    ]

-- Where a test passes for no element, the count is 0.
pub count_by-none : {X : Type 0} (test : X → Bool) (xs : List X) → list_any test xs ≡ false
    → count_by test xs ≡ 0
count_by-none test [] none = refl
count_by-none test (x ∷ xs) none = elim (cases_Bool (test x)) [
  | inl is ↦ absurd (cc (rw is at none))
  | inr isnt ↦ count_by-no test x xs isnt ∙ count_by-none test xs (rw isnt at none)
]

-- Where it passes at no place, the count is 0.
pub count_by-never : {X : Type 0} (test : X → Bool) (xs : List X)
    → ((i : ℕ) (x : X) → slice_get xs i ≡ Some x → test x ≡ false) → count_by test xs ≡ 0
count_by-never test [] never = refl
count_by-never test (x ∷ xs) never =
    count_by-no test x xs (never 0 x refl) ∙ count_by-never test xs (λ i. never (suc i))

-- Where it passes at one place at most, the count is 1 at most.
pub count_by-sole : {X : Type 0} (test : X → Bool) (xs : List X)
    → ((i j : ℕ) (x y : X) → slice_get xs i ≡ Some x → slice_get xs j ≡ Some y → test x ≡ true
    → test y ≡ true → i ≡ j) → count_by test xs ≤ 1
count_by-sole test [] sole = omega arith
count_by-sole {X} test (x ∷ xs) sole = elim (cases_Bool (test x)) [
  | inl is ↦
      let never : (i : ℕ) (y : X) → slice_get xs i ≡ Some y → test y ≡ false = λ i y at.
      elim (cases_Bool (test y)) [
        | inl too ↦ absurd (let same = sole 0 (suc i) x y refl at is too in omega arith)
        | inr not ↦ not
      ] in
      let counts = count_by-yes test x xs is in
      let rest = count_by-never test xs never in
      omega arith
  | inr isnt ↦
      let counts = count_by-no test x xs isnt in
      let rest = count_by-sole test xs (λ i j y z at_y at_z passes too.
      let same = sole (suc i) (suc j) y z at_y at_z passes too in omega arith) in
      omega arith
]

-- A sum of terms that are each at most another's.
pub sum_by-below : {X : Type 0} (f g : X → ℕ) (xs : List X)
    → ((x : X) → Contains xs x → f x ≤ g x) → sum_by f xs ≤ sum_by g xs
sum_by-below f g [] below = omega arith
sum_by-below f g (x ∷ xs) below =
    let one = sum_by-cons f x xs in
    let other = sum_by-cons g x xs in
    let here = below x (Contains-here x xs) in
    let rest = sum_by-below f g xs (λ y has. below y (Contains-there x xs y has)) in
    omega arith
