-- Laws of lists read by `slice_get`, where an element may be of any type and so has no default; of
-- whether some element passes a test, and of how many do; of sums; and of numbers that never fall.
use Rattle.std.proofs.Common.{◌≡◌, ◌≢◌, ◌<◌, ◌+◌, ◌∙◌, ℕ, zero, suc, Bool, true, false, List, []}
use Rattle.std.proofs.Common.{◌∷◌, length, take, Option, Some, None, slice_get, cond, refl, sym, ap}
use Rattle.std.proofs.Common.{◌⊎◌, ◌≤◌, ◌||◌, ◌++◌, drop, map, arith, inl, inr, take_all}
use Rattle.std.proofs.lemmas.Bool.{cases_Bool}
use Rattle.std.proofs.lemmas.List.{Sums.sum_by-cons, drop_more, take-append-le, take_more}
use Rattle.std.proofs.lemmas.Option.{get_or_from_slice_get, none-some, same_Some, slice_get-map}
use Rattle.std.proofs.lemmas.Option.{slice_get_within}
use Rattle.std.proofs.lemmas.{Option.slice_get-map}
use Rattle.std.specs.Option.{option_map}
use Rattle.std.specs.List.{count_by, list_any, slice_set, sum_by, Sorted.IsNonDecreasing}

-- A test of what is shown of some element is a test of what is shown of all.
pub list_any-map : {X Y : Type 0} (test : Y → Bool) (f : X → Y) (xs : List X)
    → list_any test (map f xs) ≡ list_any (λ x. test (f x)) xs
list_any-map test f [] = refl
list_any-map test f (x ∷ xs) = ap (λ rest. test (f x) || rest) (list_any-map test f xs)

-- A list of images is empty only where the list is.
pub map-nil : {X Y : Type 0} (f : X → Y) (xs : List X) → map f xs ≡ [] → xs ≡ []
map-nil f [] is = refl
map-nil f (x ∷ xs) is = absurd (cc is)

-- What an image that there is stands for.
pub option_map-some : {X Y : Type 0} (f : X → Y) (o : Option X) (y : Y) → option_map f o ≡ Some y
    → (x : X) × (o ≡ Some x) × (f x ≡ y)
option_map-some f None y is = absurd (none-some y is)
option_map-some f (Some x) y is = (x, refl, same_Some (f x) y is)

-- A list has an item at each place within.
pub item-at : {X : Type 0} (xs : List X) (i : ℕ) → i < length xs
    → (x : X) × (slice_get xs i ≡ Some x)
item-at [] i within = absurd (omega arith)
item-at (x ∷ xs) zero within = (x, refl)
item-at (x ∷ xs) (suc i) within = item-at xs i (omega arith)

-- The image of what stands at a place stands there in the list of images.
pub map-at : {X Y : Type 0} (f : X → Y) (xs : List X) (i : ℕ) (x : X) → slice_get xs i ≡ Some x
    → slice_get (map f xs) i ≡ Some (f x)
map-at f xs i x at = slice_get-map f xs i ∙ ap (option_map f) at

-- What stands at a place of a list of images is the image of what stands there.
pub map-slice_get : {X Y : Type 0} (f : X → Y) (xs : List X) (i : ℕ) (y : Y)
    → slice_get (map f xs) i ≡ Some y → (x : X) × (slice_get xs i ≡ Some x) × (f x ≡ y)
map-slice_get f xs i y at = option_map-some f (slice_get xs i) y (sym (slice_get-map f xs i) ∙ at)

-- The elements up to a place are those before it and the one at it.
pub take-slice_get : {X : Type 0} (xs : List X) (i : ℕ) (x : X) → slice_get xs i ≡ Some x
    → take (i + 1) xs ≡ take i xs ++ x ∷ []
take-slice_get {X} xs i x at =
    take_more xs i x (slice_get_within xs i x at)
    ∙ ap (λ (last : X). take i xs ++ last ∷ []) (get_or_from_slice_get xs i x x at)

-- What stands before an end of a list stands there in the list.
pub slice_get-take : {X : Type 0} (n : ℕ) (xs : List X) (i : ℕ) → i < n
    → slice_get (take n xs) i ≡ slice_get xs i
slice_get-take zero xs i less = absurd (omega arith)
slice_get-take (suc n) [] i less = refl
slice_get-take (suc n) (x ∷ xs) zero less = refl
slice_get-take (suc n) (x ∷ xs) (suc i) less = slice_get-take n xs i (omega arith)

-- A vector whose items are written over by as many has these.
pub written_back : {X : Type 0} (old new : List X) (count : ℕ) → count ≡ length old
    → length new ≡ length old → take count (new ++ drop (length new) old) ≡ new
written_back old new count size same =
    take-append-le count new (drop (length new) old) (omega arith)
    ∙ take_all count new (omega arith)

-- An element was put behind the others.
pub slice_get-push : {X : Type 0} (xs : List X) (y x : X) (i : ℕ)
    → slice_get (xs ++ y ∷ []) i ≡ Some x
    → (slice_get xs i ≡ Some x) ⊎ ((i ≡ length xs) × (y ≡ x))
slice_get-push [] y x zero is = inr (refl, same_Some y x is)
slice_get-push [] y x (suc i) is = absurd (none-some x is)
slice_get-push (z ∷ xs) y x zero is = inl is
slice_get-push (z ∷ xs) y x (suc i) is = elim (slice_get-push xs y x i is) [
  | inl early ↦ inl early
  | inr (last, same) ↦ inr (ap suc last, same)
]

-- From a place on, the element there comes first.
pub drop-slice_get : {X : Type 0} (xs : List X) (i : ℕ) (x : X) → slice_get xs i ≡ Some x
    → drop i xs ≡ x ∷ drop (i + 1) xs
drop-slice_get xs i x at =
    drop_more xs i x (slice_get_within xs i x at)
    ∙ ap (λ y. y ∷ drop (i + 1) xs) (get_or_from_slice_get xs i x x at)

-- Lists with the same element at each place are equal.
pub same_list : {X : Type 0} (xs ys : List X)
    → ((i : ℕ) → slice_get xs i ≡ slice_get ys i) → xs ≡ ys
same_list [] [] same = refl
same_list [] (y ∷ ys) same = let first : None ≡ Some y = same 0 in cc
same_list (x ∷ xs) [] same = let first : Some x ≡ None = same 0 in cc
same_list (x ∷ xs) (y ∷ ys) same =
    let first : x ≡ y = same_Some x y (same 0) in
    let rest : xs ≡ ys = same_list xs ys (λ i. same (suc i)) in
    cc

-- What was written at a place is read there.
pub slice_get-slice_set_same : {X : Type 0} (xs : List X) (i : ℕ) (y : X) → i < length xs
    → slice_get (slice_set xs i y) i ≡ Some y
slice_get-slice_set_same [] i y within = absurd (omega arith)
slice_get-slice_set_same (x ∷ xs) zero y within = refl
slice_get-slice_set_same (x ∷ xs) (suc i) y within = slice_get-slice_set_same xs i y (omega arith)

-- A write at one place changes no other.
pub slice_get-slice_set_other : {X : Type 0} (xs : List X) (i j : ℕ) (y : X) → j ≢ i
    → slice_get (slice_set xs i y) j ≡ slice_get xs j
slice_get-slice_set_other [] i j y other = refl
slice_get-slice_set_other (x ∷ xs) zero zero y other = absurd (other refl)
slice_get-slice_set_other (x ∷ xs) zero (suc j) y other = refl
slice_get-slice_set_other (x ∷ xs) (suc i) zero y other = refl
slice_get-slice_set_other (x ∷ xs) (suc i) (suc j) y other =
    slice_get-slice_set_other xs i j y (λ same. other (ap (λ k. suc k) same))

-- A sum over images.
pub sum_by-map : {X Y : Type 0} (f : Y → ℕ) (g : X → Y) (xs : List X)
    → sum_by f (map g xs) ≡ sum_by (λ x. f (g x)) xs
sum_by-map f g [] = refl
sum_by-map f g (x ∷ xs) =
    let first = sum_by-cons f (g x) (map g xs) in
    let same = sum_by-cons (λ x. f (g x)) x xs in
    let rest = sum_by-map f g xs in
    omega arith

-- A first item that passes a test counts.
pub count_by-yes : {X : Type 0} (test : X → Bool) (x : X) (xs : List X) → test x ≡ true
    → count_by test (x ∷ xs) ≡ suc (count_by test xs)
count_by-yes test x xs passes =
    let more : 1 + count_by test xs ≡ suc (count_by test xs) = omega arith in
    let here : cond (test x) 1 0 ≡ 1 = rw passes refl in
    sum_by-cons (λ y. cond (test y) 1 0) x xs ∙ ap (λ n. n + count_by test xs) here ∙ more

-- One that doesn't pass doesn't.
pub count_by-no : {X : Type 0} (test : X → Bool) (x : X) (xs : List X) → test x ≡ false
    → count_by test (x ∷ xs) ≡ count_by test xs
count_by-no test x xs fails =
    let same : 0 + count_by test xs ≡ count_by test xs = omega arith in
    let here : cond (test x) 1 0 ≡ 0 = rw fails refl in
    sum_by-cons (λ y. cond (test y) 1 0) x xs ∙ ap (λ n. n + count_by test xs) here ∙ same

-- Where some item passes a test, at least one counts.
pub count_by-any : {X : Type 0} (test : X → Bool) (xs : List X) → list_any test xs ≡ true
    → 1 ≤ count_by test xs
count_by-any test [] found = cc found
count_by-any test (x ∷ xs) found = elim (cases_Bool (test x)) [
  | inl passes ↦ omega (arith, count_by-yes test x xs passes)
  | inr fails ↦
      let rest = count_by-any test xs (ap (λ b. b || list_any test xs) (sym fails) ∙ found) in
      omega (arith, count_by-no test x xs fails, rest)
]

-- Before an item that passes a test fewer pass than in all.
pub count_by-before : {X : Type 0} (test : X → Bool) (xs : List X) (i : ℕ) (x : X)
    → slice_get xs i ≡ Some x → test x ≡ true → count_by test (take i xs) < count_by test xs
count_by-before test [] i x at passes = absurd (cc at)
count_by-before test (first ∷ xs) zero x at passes =
    let same : first ≡ x = same_Some first x at in
    let here : test first ≡ true = rw same passes in
    let counts = count_by-yes test first xs here in
    omega arith
count_by-before test (first ∷ xs) (suc i) x at passes =
    let rest = count_by-before test xs i x at passes in
    elim (cases_Bool (test first)) [
      | inl here ↦
          rw (count_by-yes test first (take i xs) here, count_by-yes test first xs here)
          (omega arith)
      | inr other ↦
          rw (count_by-no test first (take i xs) other, count_by-no test first xs other) rest
    ]

-- The rest of numbers that never fall never fall.
pub IsNonDecreasing-tail : (x : ℕ) (xs : List ℕ) → IsNonDecreasing (x ∷ xs) → IsNonDecreasing xs
IsNonDecreasing-tail x xs order i j d up within =
    order (suc i) (suc j) d (omega arith) (omega arith)
