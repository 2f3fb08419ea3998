-- Folds that change one place at each step, looked up at a place.
use Rattle.std.proofs.Common.{◌≡◌, ◌∙◌, ℕ, List, [], ◌∷◌, Some, filter, fold, length, slice_get}
use Rattle.std.proofs.Common.{refl, inl, inr, ◌==◌, eqb-true}
use Rattle.std.proofs.lemmas.Bool.{cases_Bool, eqb-false}

-- At a number a step of a row at that number changes what stands there, and any other row leaves it.
-- So all rows do what those at that number do.
module _ {R X : Type 0} (place : R → ℕ) (n : ℕ) (change : X → R → X) (step : List X → R → List X)
    (own : (xs : List X) (row : R) (x : X) → place row ≡ n → slice_get xs n ≡ Some x
    → slice_get (step xs row) n ≡ Some (change x row))
    (other : (xs : List X) (row : R) → (place row ≡ n → ⊥)
    → slice_get (step xs row) n ≡ slice_get xs n) where
  pub fold-at : (rows : List R) (xs : List X) (x : X) → slice_get xs n ≡ Some x
      → slice_get (fold step xs rows) n
      ≡ Some (fold change x (filter (λ row. place row == n) rows))
  fold-at [] xs x at = at
  fold-at (row ∷ rows) xs x at = elim (cases_Bool (place row == n)) [
    | inl here ↦ rw here (fold-at rows (step xs row) (change x row)
        (own xs row x (eqb-true (place row) n here) at))
    | inr there ↦ rw there (fold-at rows (step xs row) x
        (other xs row (eqb-false (place row) n there) ∙ at))
  ]

-- Where each step keeps how many there are, all do.
pub length-fold : {R X : Type 0} (step : List X → R → List X)
    → ((xs : List X) (row : R) → length (step xs row) ≡ length xs) → (rows : List R) (xs : List X)
    → length (fold step xs rows) ≡ length xs
length-fold step same [] xs = refl
length-fold step same (row ∷ rows) xs = length-fold step same rows (step xs row) ∙ same xs row
