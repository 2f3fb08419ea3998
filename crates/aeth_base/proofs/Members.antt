-- What is in a list, as `Contains` has it: at a head and a rest, at a place, under `map`, `filter`,
-- `filter_map` and `flat_map`, and by a test.
use Rattle.std.proofs.Common.{◌≡◌, ◌≢◌, ◌<◌, ◌⊎◌, ◌∙◌, ℕ, zero, suc, Bool, true, false, cond, eqb}
use Rattle.std.proofs.Common.{List, [], ◌∷◌, length, map, filter, All, Contains, slice_get, Option}
use Rattle.std.proofs.Common.{Some, None, arith, refl, sym, ap, subst, inl, inr, eq-eqb, eqb-true}
use Rattle.std.proofs.lemmas.Bool.{both_ways, or_cases, or_left, or_right}
use Rattle.std.proofs.lemmas.List.{get_or-map, length-map, Concat.flat_map-cons}
use Rattle.std.proofs.lemmas.List.{Elements.Contains-append_cases, Elements.Contains-append_left}
use Rattle.std.proofs.lemmas.List.{Elements.Contains-append_right}
use Rattle.std.proofs.lemmas.Option.{get_or_from_slice_get, slice_get-get_or, slice_get_within}
use Rattle.std.specs.List.{cons_option, filter_map, flat_map, list_any}

-- Nothing is in an empty list.
pub Contains-nil : {X P : Type 0} {x : X} → Contains [] x → P
Contains-nil (k, within, at) = absurd (omega arith)

-- The head of a list is in it.
pub Contains-here : {X : Type 0} (x : X) (xs : List X) → Contains (x ∷ xs) x
Contains-here x xs = (0, omega arith, refl)

-- What is in the rest of a list is in the list.
pub Contains-there : {X : Type 0} (x : X) (xs : List X) (y : X) → Contains xs y
    → Contains (x ∷ xs) y
Contains-there x xs y (k, within, at) = (suc k, omega arith, at)

-- What is in a list is its head or in the rest.
pub Contains-cases : {X : Type 0} (x : X) (xs : List X) (y : X) → Contains (x ∷ xs) y
    → (x ≡ y) ⊎ Contains xs y
Contains-cases x xs y (zero, within, at) = inl at
Contains-cases x xs y (suc k, within, at) = inr (k, omega arith, at)

-- What is in a list of one element is this element.
pub sole-Contains : {X : Type 0} (x y : X) → Contains (x ∷ []) y → x ≡ y
sole-Contains x y has = elim (Contains-cases x [] y has) [
  | inl is ↦ is
  | inr none ↦ Contains-nil none
]

-- A list that contains something isn't empty.
pub Contains-some : {X : Type 0} (xs : List X) (x : X) → Contains xs x → 0 < length xs
Contains-some xs x (k, within, at) = omega arith

-- What stands at a place of a list is in it.
pub Contains-slice_get : {X : Type 0} (xs : List X) (i : ℕ) (x : X) → slice_get xs i ≡ Some x
    → Contains xs x
Contains-slice_get xs i x at =
    (i, slice_get_within xs i x at, get_or_from_slice_get xs i x x at)

-- What is in a list stands at a place of it.
pub slice_get-Contains : {X : Type 0} (xs : List X) (x : X) → Contains xs x
    → (i : ℕ) × (slice_get xs i ≡ Some x)
slice_get-Contains xs x (i, within, at) = (i, slice_get-get_or xs i x within ∙ ap Some at)

-- What holds of all elements holds of the one at a place.
pub All-slice_get : {X : Type 0} (P : X → Type 0) (xs : List X) (i : ℕ) (x : X) → All P xs
    → slice_get xs i ≡ Some x → P x
All-slice_get P xs i x all at =
    subst P (get_or_from_slice_get xs i x x at) (all i x (slice_get_within xs i x at))

-- What holds of all images of a list's elements holds of the image of each.
pub All-from_map : {X Y : Type 0} (f : X → Y) (P : Y → Type 0) (xs : List X) → All P (map f xs)
    → All (λ x. P (f x)) xs
All-from_map f P xs all place default within =
    subst P (get_or-map f xs place default (f default) within)
    (all place (f default) (let size = length-map xs f in omega arith))

-- The image of what is in a list is in the list of images.
pub Contains-map : {X Y : Type 0} (f : X → Y) (xs : List X) (x : X) → Contains xs x
    → Contains (map f xs) (f x)
Contains-map f [] x has = Contains-nil has
Contains-map f (y ∷ ys) x has = elim (Contains-cases y ys x has) [
  | inl same ↦ (0, omega arith, ap f same)
  | inr later ↦ Contains-there (f y) (map f ys) (f x) (Contains-map f ys x later)
]

-- What is in the list of images is the image of something in the list.
pub map-Contains : {X Y : Type 0} (f : X → Y) (xs : List X) (y : Y) → Contains (map f xs) y
    → (x : X) × (f x ≡ y) × Contains xs x
map-Contains f [] y has = Contains-nil has
map-Contains f (x ∷ xs) y has = elim (Contains-cases (f x) (map f xs) y has) [
  | inl same ↦ (x, same, Contains-here x xs)
  | inr later ↦ let found = map-Contains f xs y later in
      (found.0, found.1, Contains-there x xs found.0 found.2)
]

-- What is in a list and passes the test is kept by the filter.
pub Contains-filter : {X : Type 0} (test : X → Bool) (xs : List X) (x : X) → Contains xs x
    → test x ≡ true → Contains (filter test xs) x
Contains-filter test [] x has passes = Contains-nil has
Contains-filter {X} test (y ∷ ys) x has passes =
    let cases : (b : Bool) → test y ≡ b
    → Contains (cond b (y ∷ filter test ys) (filter test ys)) x =
    elim [
      | true ↦ λ is. elim (Contains-cases y ys x has) [
        | inl same ↦ (0, omega arith, same)
        | inr later ↦ Contains-there y (filter test ys) x (Contains-filter test ys x later passes)
      ]
      | false ↦ λ is. elim (Contains-cases y ys x has) [
        | inl same ↦ absurd (both_ways (test x) (sym (ap test same) ∙ is) passes)
        | inr later ↦ Contains-filter test ys x later passes
      ]
    ]
    in cases (test y) refl

-- What a filter keeps is in the list and passes the test.
pub filter-Contains : {X : Type 0} (test : X → Bool) (xs : List X) (x : X)
    → Contains (filter test xs) x → Contains xs x × (test x ≡ true)
filter-Contains test [] x has = Contains-nil has
filter-Contains {X} test (y ∷ ys) x has =
    let cases : (b : Bool) → test y ≡ b → Contains (cond b (y ∷ filter test ys) (filter test ys)) x
    → Contains (y ∷ ys) x × (test x ≡ true) =
    elim [
      | true ↦ λ is kept. elim (Contains-cases y (filter test ys) x kept) [
        | inl same ↦ ((0, omega arith, same), sym (ap test same) ∙ is)
        | inr later ↦ let found = filter-Contains test ys x later in
            (Contains-there y ys x found.0, found.1)
      ]
      | false ↦ λ is kept. let found = filter-Contains test ys x kept in
          (Contains-there y ys x found.0, found.1)
    ]
    in cases (test y) refl has

-- An element of a list that isn't its first is one of the others.
pub Contains-others : {X : Type 0} (x : X) (xs : List X) (y : X) → y ≢ x → Contains (x ∷ xs) y
    → Contains xs y
Contains-others x xs y other (zero, within, same) = absurd (other (sym same))
Contains-others x xs y other (suc k, within, same) = (k, omega arith, same)

-- What is in the list that comes from an element is in the lists from all.
pub Contains-flat_map : {X Y : Type 0} (f : X → List Y) (xs : List X) (x : X) (y : Y)
    → Contains xs x → Contains (f x) y → Contains (flat_map f xs) y
Contains-flat_map f [] x y has inside = Contains-nil has
Contains-flat_map f (first ∷ xs) x y has inside =
    rw (flat_map-cons f first xs) (elim (Contains-cases first xs x has) [
      | inl same ↦ Contains-append_left (f first) (flat_map f xs) y (rw same inside)
      | inr later ↦ Contains-append_right (f first) (flat_map f xs) y
          (Contains-flat_map f xs x y later inside)
    ])

-- What is given for one of a list is among what is given.
pub Contains-filter_map : {X Y : Type 0} (give : X → Option Y) (xs : List X) (x : X) (y : Y)
    → Contains xs x → give x ≡ Some y → Contains (filter_map give xs) y
Contains-filter_map give [] x y has gives = Contains-nil has
Contains-filter_map {X} {Y} give (first ∷ xs) x y has gives = elim (Contains-cases first xs x has) [
  | inl here ↦
      let is : give first ≡ Some y = ap give here ∙ gives in
      rw is (Contains-here y (filter_map give xs))
  | inr later ↦
      let rest = Contains-filter_map give xs x y later gives in
      let cases : (o : Option Y) → Contains (cons_option o (filter_map give xs)) y =
      elim [ None ↦ rest | Some other ↦ Contains-there other (filter_map give xs) y rest ]
      in cases (give first)
]

-- What is among what is given is given for one of the list.
pub filter_map-Contains : {X Y : Type 0} (give : X → Option Y) (xs : List X) (y : Y)
    → Contains (filter_map give xs) y → (x : X) × Contains xs x × (give x ≡ Some y)
filter_map-Contains give [] y has = Contains-nil has
filter_map-Contains {X} {Y} give (x ∷ xs) y has =
    let cases : (o : Option Y) → give x ≡ o → Contains (cons_option o (filter_map give xs)) y
    → (z : X) × Contains (x ∷ xs) z × (give z ≡ Some y) =
    elim [
      | None ↦ λ is later. let (z, inside, gives) = filter_map-Contains give xs y later in
          (z, Contains-there x xs z inside, gives)
      | Some first ↦ λ is there. elim (Contains-cases first (filter_map give xs) y there) [
        | inl same ↦ (x, Contains-here x xs, is ∙ ap (λ v. Some v) same)
        | inr later ↦ let (z, inside, gives) = filter_map-Contains give xs y later in
            (z, Contains-there x xs z inside, gives)
      ]
    ]
    in cases (give x) refl has

-- What is in the lists from all elements is in the one from some element.
pub flat_map-Contains : {X Y : Type 0} (f : X → List Y) (xs : List X) (y : Y)
    → Contains (flat_map f xs) y → (x : X) × Contains xs x × Contains (f x) y
flat_map-Contains f [] y has = Contains-nil has
flat_map-Contains f (x ∷ xs) y has =
    elim (Contains-append_cases (f x) (flat_map f xs) y (rw (flat_map-cons f x xs) at has)) [
      | inl here ↦ (x, Contains-here x xs, here)
      | inr later ↦ let found = flat_map-Contains f xs y later in
          (found.0, Contains-there x xs found.0 found.1, found.2)
    ]

-- A number that a test finds in a list is in it.
pub list_any-Contains : (xs : List ℕ) (s : ℕ) → list_any (λ t. eqb t s) xs ≡ true → Contains xs s
list_any-Contains [] s test = cc
list_any-Contains (x ∷ xs) s test = elim (or_cases (eqb x s) _ test) [
  | inl here ↦ (0, omega arith, eqb-true x s here)
  | inr later ↦ Contains-there x xs s (list_any-Contains xs s later)
]

-- A number that is in a list is found by the test.
pub Contains-list_any : (xs : List ℕ) (s : ℕ) → Contains xs s → list_any (λ t. eqb t s) xs ≡ true
Contains-list_any [] s has = Contains-nil has
Contains-list_any (x ∷ xs) s has = elim (Contains-cases x xs s has) [
  | inl same ↦ or_left (eqb x s) _ (eq-eqb x s same)
  | inr later ↦ or_right (eqb x s) _ (Contains-list_any xs s later)
]
