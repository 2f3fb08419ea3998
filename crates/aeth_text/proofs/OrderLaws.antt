-- Lists that rise: no item of them is misplaced.
use Rattle.std.proofs.Common.{◌≡◌, ◌∙◌, ℕ, Bool, true, false, cond, List, [], ◌∷◌, Some, None, refl}
use Rattle.std.proofs.Common.{sym}
use Rattle.std.proofs.lemmas.{Bool.cond-true, Option.none-some}
use Rattle.aeth_text.specs.Order.{Rises, RisesAfter, line_after, misplaced, misplaced_after}

module _ {X : Type 0} (before : X → X → Bool) where
  rises_after : (last : X) (line : ℕ) (xs : List X) → misplaced_after before last line xs ≡ None
      → RisesAfter before last xs
  rises_after last line [] none = tt
  rises_after last line (x ∷ xs) none =
      let cases : (b : Bool) → before last x ≡ b
      → cond b (misplaced_after before x (line_after line 1) xs) (Some line) ≡ None
      → (before last x ≡ true) × RisesAfter before x xs =
      elim [
        | true ↦ λ is none. (is, rises_after x (line_after line 1) xs none)
        | false ↦ λ is none. absurd (none-some line (sym none))
      ]
      in cases (before last x) refl none

  after_rises : (last : X) (line : ℕ) (xs : List X) → RisesAfter before last xs
      → misplaced_after before last line xs ≡ None
  after_rises last line [] rises = refl
  after_rises last line (x ∷ xs) rises =
      cond-true (before last x) _ (Some line) rises.0
      ∙ after_rises x (line_after line 1) xs rises.1

  -- No item is misplaced exactly where the list rises.
  pub rises : (line : ℕ) (xs : List X) → misplaced before line xs ≡ None → Rises before xs
  rises line [] none = tt
  rises line (x ∷ xs) none = rises_after x (line_after line 1) xs none

  pub none_misplaced : (line : ℕ) (xs : List X) → Rises before xs
      → misplaced before line xs ≡ None
  none_misplaced line [] rising = refl
  none_misplaced line (x ∷ xs) rising = after_rises x (line_after line 1) xs rising
