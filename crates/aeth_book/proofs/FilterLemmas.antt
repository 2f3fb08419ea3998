-- Laws of filters and of ranges.
use Rattle.std.proofs.Common.{◌≡◌, ◌∙◌, ◌<◌, ◌+◌, ◌++◌, ◌&&◌, ◌||◌, ℕ, Bool, true, false, cond}
use Rattle.std.proofs.Common.{List, [], ◌∷◌, length, Contains, get_or, refl, ap, filter, take}
use Rattle.std.proofs.Common.{append-nil}
use Rattle.std.proofs.lemmas.List.{take_more, Elements.filter-append}
use Rattle.std.specs.List.{list_any}
use Rattle.aeth_base.proofs.Members.{Contains-here, Contains-there}

-- What one filter leaves, another filters.
pub filter_twice : {X : Type 0} (first second both : X → Bool) (xs : List X)
    → ((x : X) → Contains xs x → (first x && second x) ≡ both x)
    → filter second (filter first xs) ≡ filter both xs
filter_twice first second both [] same = refl
filter_twice {X} first second both (x ∷ xs) same =
    let rest : filter second (filter first xs) ≡ filter both xs =
    filter_twice first second both xs (λ y has. same y (Contains-there x xs y has)) in
    let cases : (a b : Bool) → (a ≡ first x) → (b ≡ second x)
    → filter second (cond a (x ∷ filter first xs) (filter first xs))
    ≡ cond (a && b) (x ∷ filter both xs) (filter both xs) =
    elim [
      | true ↦ λ b is_first is_second.
          rw (← is_second) (ap (λ ys. cond b (x ∷ ys) ys) rest)
      | false ↦ λ b is_first is_second. rest
    ]
    in rw (← same x (Contains-here x xs)) (cases (first x) (second x) refl refl)

-- Tests that agree on a list leave the same of it.
pub filter_same : {X : Type 0} (first second : X → Bool) (xs : List X)
    → ((x : X) → Contains xs x → first x ≡ second x) → filter first xs ≡ filter second xs
filter_same first second [] same = refl
filter_same first second (x ∷ xs) same =
    let rest : filter first xs ≡ filter second xs =
    filter_same first second xs (λ y has. same y (Contains-there x xs y has)) in
    rw (same x (Contains-here x xs)) (ap (λ ys. cond (second x) (x ∷ ys) ys) rest)

-- One more element that passes, and one that doesn't.
pub filter-push : {X : Type 0} (test : X → Bool) (xs : List X) (x : X) → test x ≡ true
    → filter test (xs ++ x ∷ []) ≡ filter test xs ++ x ∷ []
filter-push test xs x passes =
    filter-append test xs (x ∷ [])
    ∙ ap (λ b. filter test xs ++ cond b (x ∷ []) []) passes

pub filter-skip : {X : Type 0} (test : X → Bool) (xs : List X) (x : X) → test x ≡ false
    → filter test (xs ++ x ∷ []) ≡ filter test xs
filter-skip test xs x fails =
    filter-append test xs (x ∷ [])
    ∙ ap (λ b. filter test xs ++ cond b (x ∷ []) []) fails ∙ append-nil (filter test xs)

-- A test that all pass leaves the list.
pub filter_none : (xs : List ℕ) → filter (λ x. true) xs ≡ xs
filter_none [] = refl
filter_none (x ∷ xs) = ap (λ ys. x ∷ ys) (filter_none xs)

pub filter-same-more : (test : ℕ → Bool) (row : List ℕ) (i : ℕ) → i < length row
    → test (get_or row i 0) ≡ false → filter test (take (i + 1) row) ≡ filter test (take i row)
filter-same-more test row i within fails =
    ap (filter test) (take_more row i 0 within)
    ∙ filter-skip test (take i row) (get_or row i 0) fails

-- What passes one test of the elements that pass another.
pub any-filter : {X : Type 0} (first second : X → Bool) (xs : List X)
    → list_any second (filter first xs) ≡ list_any (λ x. first x && second x) xs
any-filter first second [] = refl
any-filter {X} first second (x ∷ xs) =
    let rest : list_any second (filter first xs) ≡ list_any (λ y. first y && second y) xs =
    any-filter first second xs in
    let cases : (a : Bool) → a ≡ first x
    → list_any second (cond a (x ∷ filter first xs) (filter first xs))
    ≡ ((a && second x) || list_any (λ y. first y && second y) xs) =
    elim [
      | true ↦ λ is. ap (λ b. second x || b) rest
      | false ↦ λ is. rest
    ]
    in cases (first x) refl
