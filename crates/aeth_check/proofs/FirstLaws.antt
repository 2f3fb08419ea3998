-- No line and no pair passes a test exactly where none of the items does.
use Rattle.std.proofs.Common.{◌≡◌, ◌∙◌, ◌<◌, ℕ, zero, suc, Bool, true, false, cond, List, [], ◌∷◌}
use Rattle.std.proofs.Common.{Option, Some, None, Contains, slice_get, refl, sym, ap, inl, inr}
use Rattle.std.proofs.Common.{arith, not, ◌↔◌}
use Rattle.std.proofs.lemmas.Bool.{cond-false, false_from_ne_true, false≢true, not-false}
use Rattle.std.proofs.lemmas.Option.{none-some, same_Some}
use Rattle.std.specs.Bool.{Decides}
use Rattle.aeth_base.proofs.Members.{Contains-cases, Contains-here, Contains-nil}
use Rattle.aeth_base.proofs.Members.{Contains-slice_get, Contains-there, slice_get-Contains}
use Rattle.aeth_text.specs.Order.{line_after}
use Rattle.aeth_check.specs.Firsts.{first_line, first_pair, pair_or}
use Rattle.aeth_plan.specs.Accepted.{NoTwo}

pair_none : (line : ℕ) (first : Option ℕ) (later : Option (ℕ × ℕ))
    → pair_or line first later ≡ None → (first ≡ None) × (later ≡ None)
pair_none line None later none = (refl, none)
pair_none line (Some other) later none = absurd (none-some (line, other) (sym none))

module _ {X : Type 0} where
  line_cons : (test : X → Bool) (line : ℕ) (x : X) (xs : List X)
      → first_line test line (x ∷ xs) ≡ None
      → (test x ≡ false) × (first_line test (line_after line 1) xs ≡ None)
  line_cons test line x xs none =
      let cases : (b : Bool) → test x ≡ b
      → cond b (Some line) (first_line test (line_after line 1) xs) ≡ None
      → (test x ≡ false) × (first_line test (line_after line 1) xs ≡ None) =
      elim [
        | true ↦ λ is none. absurd (none-some line (sym none))
        | false ↦ λ is none. (is, none)
      ]
      in cases (test x) refl none

  -- Where there is no line, no item passes.
  pub none_passes : (test : X → Bool) (line : ℕ) (xs : List X) → first_line test line xs ≡ None
      → (x : X) → Contains xs x → test x ≡ false
  none_passes test line [] none x has = Contains-nil has
  none_passes test line (y ∷ xs) none x has =
      let (fails, later) = line_cons test line y xs none in
      elim (Contains-cases y xs x has) [
        | inl same ↦ ap test (sym same) ∙ fails
        | inr behind ↦ none_passes test (line_after line 1) xs later x behind
      ]

  -- Where no item passes, there is no line.
  pub no_line : (test : X → Bool) (line : ℕ) (xs : List X)
      → ((x : X) → Contains xs x → test x ≡ false) → first_line test line xs ≡ None
  no_line test line [] fails = refl
  no_line test line (y ∷ xs) fails =
      cond-false (test y) _ _ (fails y (Contains-here y xs))
      ∙ no_line test (line_after line 1) xs (λ x has. fails x (Contains-there y xs x has))

  -- Where there is no pair, no two items pass.
  pub no_two_pass : (test : X → X → Bool) (line : ℕ) (xs : List X)
      → first_pair test line xs ≡ None → (i j : ℕ) (a b : X) → i < j → slice_get xs i ≡ Some a
      → slice_get xs j ≡ Some b → test a b ≡ false
  no_two_pass test line [] none i j a b less at_i at_j = absurd (none-some a at_i)
  no_two_pass test line (x ∷ xs) none zero zero a b less at_i at_j = absurd (omega arith)
  no_two_pass test line (x ∷ xs) none zero (suc j) a b less at_i at_j =
      let (first, later) = pair_none line _ _ none in
      let same : x ≡ a = same_Some x a at_i in
      ap (λ y. test y b) (sym same)
      ∙ none_passes (test x) (line_after line 1) xs first b (Contains-slice_get xs j b at_j)
  no_two_pass test line (x ∷ xs) none (suc i) zero a b less at_i at_j = absurd (omega arith)
  no_two_pass test line (x ∷ xs) none (suc i) (suc j) a b less at_i at_j =
      let (first, later) = pair_none line _ _ none in
      no_two_pass test (line_after line 1) xs later i j a b (omega arith) at_i at_j

  -- Where no two items pass, there is no pair.
  pub no_pair_of : (test : X → X → Bool) (line : ℕ) (xs : List X)
      → ((i j : ℕ) (a b : X) → i < j → slice_get xs i ≡ Some a → slice_get xs j ≡ Some b
      → test a b ≡ false)
      → first_pair test line xs ≡ None
  no_pair_of test line [] fails = refl
  no_pair_of test line (x ∷ xs) fails =
      ap (λ o. pair_or line o (first_pair test (line_after line 1) xs))
      (no_line (test x) (line_after line 1) xs (λ y has.
      let at = slice_get-Contains xs y has in fails 0 (suc at.0) x y (omega arith) refl at.1))
      ∙ no_pair_of test (line_after line 1) xs (λ i j a b less at_i at_j.
      fails (suc i) (suc j) a b (omega arith) at_i at_j)

  -- No two items are related where no pair is told.
  pub two_apart : (test : X → X → Bool) (Related : X → X → Type 0) (line : ℕ) (xs : List X)
      → ((a b : X) → Decides (test a b) (Related a b))
      → (first_pair test line xs ≡ None) ↔ NoTwo Related xs
  two_apart test Related line xs decides = (
    (λ none i j a b less at_i at_j related.
        false≢true (sym (no_two_pass test line xs none i j a b less at_i at_j)
        ∙ (decides a b).1 related)),
    (λ apart. no_pair_of test line xs (λ i j a b less at_i at_j.
        false_from_ne_true (test a b) (λ passes.
        apart i j a b less at_i at_j ((decides a b).0 passes)))),
  )

  -- Each item holds where no line is told of one that fails.
  pub all_hold : (test : X → Bool) (Holds : X → Type 0) (line : ℕ) (xs : List X)
      → ((x : X) → Decides (test x) (Holds x))
      → (first_line (λ x. not (test x)) line xs ≡ None) ↔ ((x : X) → Contains xs x → Holds x)
  all_hold test Holds line xs decides = (
    (λ none x has.
        let fails = none_passes (λ y. not (test y)) line xs none x has in
        (decides x).0 (not-false (test x) fails)),
    (λ holds. no_line (λ x. not (test x)) line xs
        (λ x has. ap not ((decides x).1 (holds x has)))),
  )
