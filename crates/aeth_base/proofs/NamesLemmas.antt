-- Names and their first places, as one name more is entered behind the others.
use Rattle.std.proofs.Common.{◌≡◌, ◌+◌, ◌++◌, ◌∷◌, ◌∙◌, [], ℕ, Bool, true, false, cond, List}
use Rattle.std.proofs.Common.{Option, Some, None, ap, arith, inl, inr, length, is_some, refl, sym}
use Rattle.std.proofs.lemmas.{Bool.cases_Bool, Bool.false≢true, Cmp.nat_list_eq_equiv}
use Rattle.std.proofs.lemmas.{Iterator.Adapters.position_from-zero, Option.none-some}
use Rattle.std.proofs.lemmas.{Slice.Eq.bytes_eq-Decides}
use Rattle.std.specs.{List.position, List.position_from, Str.bytes_eq}
use Rattle.indexmap.specs.IndexMap.{IndexMap, Updates, get}
use Rattle.aeth_base.specs.Names.{HaveFirstPlaces}

-- A place that is found in the front of a list is found in the list.
position_from-front : {X : Type 0} (test : X → Bool) (first place : ℕ) (xs ys : List X)
    → position_from test first xs ≡ Some place → position_from test first (xs ++ ys) ≡ Some place
position_from-front test first place [] ys at = absurd (none-some place at)
position_from-front test first place (x ∷ xs) ys at = elim (cases_Bool (test x)) [
  | inl passes ↦ grind (arith, passes, at)
  | inr fails ↦
      let later : position_from test (first + 1) xs ≡ Some place = grind (arith, fails, at) in
      rw fails (position_from-front test (first + 1) place xs ys later)
]

-- Where none is found in the front, it is the last that is found, if any.
position_from-last : {X : Type 0} (test : X → Bool) (first : ℕ) (xs : List X) (y : X)
    → position_from test first xs ≡ None
    → position_from test first (xs ++ y ∷ []) ≡ cond (test y) (Some (first + length xs)) None
position_from-last {X} test first [] y none =
    let same : first ≡ first + length {A = X} [] = omega arith in
    ap (λ place. cond (test y) (Some place) None) same
position_from-last test first (x ∷ xs) y none = elim (cases_Bool (test x)) [
  | inl passes ↦ absurd (grind (arith, passes, none))
  | inr fails ↦
      let later : position_from test (first + 1) xs ≡ None = grind (arith, fails, none) in
      rw (fails, position_from-last test (first + 1) xs y later)
      (ap (λ place. cond (test y) (Some place) None) (omega arith))
]

-- The same of places from 0 on.
position-front : {X : Type 0} (test : X → Bool) (place : ℕ) (xs ys : List X)
    → position test xs ≡ Some place → position test (xs ++ ys) ≡ Some place
position-front test place xs ys at =
    position_from-zero test (xs ++ ys)
    ∙ position_from-front test 0 place xs ys (sym (position_from-zero test xs) ∙ at)

position-last : {X : Type 0} (test : X → Bool) (xs : List X) (y : X) → position test xs ≡ None
    → position test (xs ++ y ∷ []) ≡ cond (test y) (Some (length xs)) None
position-last test xs y none =
    position_from-zero test (xs ++ y ∷ [])
    ∙ position_from-last test 0 xs y (sym (position_from-zero test xs) ∙ none)
    ∙ ap (λ place. cond (test y) (Some place) None) (omega arith)

-- A name that is there already changes no first place.
pub placed-again : {S : Type 0} (names : List (List ℕ)) (name : List ℕ)
    (places : IndexMap (List ℕ) ℕ S) → HaveFirstPlaces names places
    → is_some (get bytes_eq places name) ≡ true → HaveFirstPlaces (names ++ name ∷ []) places
placed-again names name places placed there other =
    by (get bytes_eq places other) refl
  where
    by : (found : Option ℕ) → get bytes_eq places other ≡ found
        → get bytes_eq places other ≡ position (bytes_eq other) (names ++ name ∷ [])
    by (Some at) is =
        is ∙ sym (position-front (bytes_eq other) at names (name ∷ []) (sym (placed other) ∙ is))
    by None is = elim (cases_Bool (bytes_eq other name)) [
      | inl same ↦
          let one : other ≡ name = (bytes_eq-Decides other name).0 same in
          absurd (false≢true (sym (ap is_some is)
          ∙ ap (λ at. is_some (get bytes_eq places at)) one ∙ there))
      | inr differs ↦
          is ∙ sym (position-last (bytes_eq other) names name (sym (placed other) ∙ is)
          ∙ rw differs refl)
    ]

-- A new name has the last place.
pub placed-new : {S : Type 0} (names : List (List ℕ)) (name : List ℕ)
    (old new : IndexMap (List ℕ) ℕ S) → HaveFirstPlaces names old
    → is_some (get bytes_eq old name) ≡ false → Updates bytes_eq old new name (Some (length names))
    → HaveFirstPlaces (names ++ name ∷ []) new
placed-new names name old new placed absent updates other =
    updates.0 other ∙ by (get bytes_eq old other) refl
  where
    by : (found : Option ℕ) → get bytes_eq old other ≡ found
        → cond (bytes_eq name other) (Some (length names)) (get bytes_eq old other)
        ≡ position (bytes_eq other) (names ++ name ∷ [])
    by (Some at) is = elim (cases_Bool (bytes_eq name other)) [
      | inl same ↦
          let one : name ≡ other = (bytes_eq-Decides name other).0 same in
          absurd (false≢true (sym absent
          ∙ ap (λ at. is_some (get bytes_eq old at)) one ∙ ap is_some is))
      | inr differs ↦
          rw differs (is
          ∙ sym (position-front (bytes_eq other) at names (name ∷ []) (sym (placed other) ∙ is)))
    ]
    by None is =
        rw is (ap (λ same. cond same (Some (length names)) None) (nat_list_eq_equiv.symm name other)
        ∙ sym (position-last (bytes_eq other) names name (sym (placed other) ∙ is)))
