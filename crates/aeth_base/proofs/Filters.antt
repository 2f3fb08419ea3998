-- Laws of filters: of a first element, of two filters, of images, of one that is applied again, and
-- of how many elements one keeps.
use Rattle.std.proofs.Common.{◌≡◌, ◌≤◌, ◌&&◌, ◌∙◌, Bool, true, false, cond, List, [], ◌∷◌, Contains}
use Rattle.std.proofs.Common.{filter, inl, inr, length, map, refl, ap}
use Rattle.std.proofs.lemmas.Bool.{cases_Bool}
use Rattle.std.proofs.lemmas.List.Sums.{count_by-le-length, length-filter}
use Rattle.aeth_base.proofs.Members.{Contains-here, Contains-there}

-- A filter keeps a first element that passes.
pub filter-yes : {X : Type 0} (test : X → Bool) (x : X) (xs : List X) → test x ≡ true
    → filter test (x ∷ xs) ≡ x ∷ filter test xs
filter-yes test x xs is = ap (λ b. cond b (x ∷ filter test xs) (filter test xs)) is

-- It drops one that fails.
pub filter-no : {X : Type 0} (test : X → Bool) (x : X) (xs : List X) → test x ≡ false
    → filter test (x ∷ xs) ≡ filter test xs
filter-no test x xs is = ap (λ b. cond b (x ∷ filter test xs) (filter test xs)) is

-- Where each element fails it keeps nothing.
pub filter-all_fail : {X : Type 0} (test : X → Bool) (xs : List X)
    → ((x : X) → Contains xs x → test x ≡ false) → filter test xs ≡ []
filter-all_fail test [] fails = refl
filter-all_fail test (x ∷ xs) fails =
    filter-no test x xs (fails x (Contains-here x xs))
    ∙ filter-all_fail test xs (λ y has. fails y (Contains-there x xs y has))

-- Of two filters each may come first.
pub filter-swap : {X : Type 0} (p q : X → Bool) (xs : List X)
    → filter p (filter q xs) ≡ filter q (filter p xs)
filter-swap p q [] = refl
filter-swap {X} p q (x ∷ xs) =
    let rest = filter-swap p q xs in
    elim (cases_Bool (p x)) [
      | inl one ↦ elim (cases_Bool (q x)) [
        | inl other ↦ rw (one, other, one) (ap (λ (ys : List X). x ∷ ys) rest)
        | inr other ↦ rw (one, other) rest
      ]
      | inr one ↦ elim (cases_Bool (q x)) [
        | inl other ↦ rw (one, other, one) rest
        | inr other ↦ rw (one, other) rest
      ]
    ]

-- One filter after another keeps what passes both tests.
pub filter-filter : {X : Type 0} (one two : X → Bool) (xs : List X)
    → filter two (filter one xs) ≡ filter (λ x. one x && two x) xs
filter-filter one two [] = refl
filter-filter {X} one two (x ∷ xs) =
    let rest = filter-filter one two xs in
    elim (cases_Bool (one x)) [
      | inr fails ↦ rw fails rest
      | inl passes ↦ elim (cases_Bool (two x)) [
        | inl both ↦ rw (passes, both) (ap (λ (ys : List X). x ∷ ys) rest)
        | inr half ↦ rw (passes, half) rest
      ]
    ]

-- A filter of images is the images of a filter.
pub filter-map : {X Y : Type 0} (test : Y → Bool) (f : X → Y) (xs : List X)
    → filter test (map f xs) ≡ map f (filter (λ x. test (f x)) xs)
filter-map test f [] = refl
filter-map test f (x ∷ xs) =
    let rest = filter-map test f xs in
    elim (cases_Bool (test (f x))) [
      | inl is ↦ rw is (ap (λ ys. f x ∷ ys) rest)
      | inr isnt ↦ rw isnt rest
    ]

-- A filter that is applied again keeps all.
pub filter-again : {X : Type 0} (test : X → Bool) (xs : List X)
    → filter test (filter test xs) ≡ filter test xs
filter-again test [] = refl
filter-again {X} test (x ∷ xs) =
    let rest = filter-again test xs in
    elim (cases_Bool (test x)) [
      | inl is ↦ rw (is, is) (ap (λ (ys : List X). x ∷ ys) rest)
      | inr isnt ↦ rw isnt rest
    ]

-- A filter that nothing passes keeps nothing.
pub filter-none : {X : Type 0} (xs : List X) → filter (λ x. false) xs ≡ []
filter-none [] = refl
filter-none (x ∷ xs) = filter-none xs

-- A filter keeps no more than there is.
pub filter-few : {X : Type 0} (p : X → Bool) (xs : List X) → length (filter p xs) ≤ length xs
filter-few p xs = rw (length-filter p xs) (count_by-le-length p xs)
