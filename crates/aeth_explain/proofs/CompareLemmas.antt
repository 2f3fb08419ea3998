-- Two lists compared element by element.
use Rattle.std.proofs.Common.{◌≡◌, ◌≢◌, ◌∙◌, ◌+◌, ◌-◌, ◌≤◌, ◌⊎◌, ℕ, List, [], ◌∷◌, Some, ap, arith}
use Rattle.std.proofs.Common.{drop, inl, inr, length, length-drop, sym, slice_get}
use Rattle.std.proofs.lemmas.{Bool.cases_lt, List.drop_more, Option.get_or_from_slice_get}
use Rattle.std.proofs.lemmas.{Option.slice_get_within}
use Rattle.std.specs.Cmp.{nat_cmp_is, Lexicographic.slice_cmp}
use Rattle.std.specs.Ordering.{nat_cmp, on, ordering_then}
use Rattle.std.specs.declared.cmp.Ordering.{Ordering}
use Rattle.std.specs.declared.cmp.Ordering.TheVariants.{Less, Equal, Greater}

-- Unlike numbers decide.
then-unlike : (a b : ℕ) (o : Ordering) → a ≢ b → ordering_then (nat_cmp a b) o ≡ nat_cmp a b
then-unlike a b o unlike = elim (cases_lt a b) [
  | inl less ↦
      let is : Less ≡ nat_cmp a b = nat_cmp_is a b Less less in
      ap (λ r. ordering_then r o) (sym is) ∙ is
  | inr more ↦
      let is : Greater ≡ nat_cmp a b = nat_cmp_is a b Greater (omega (arith, more, unlike)) in
      ap (λ r. ordering_then r o) (sym is) ∙ is
]

module _ {K : Type 0} (number : K → ℕ) where
  abbrev compared : List K → List K → Ordering
  compared = slice_cmp (on number nat_cmp)

  from-place : (xs : List K) (i : ℕ) (x : K) → slice_get xs i ≡ Some x
      → drop i xs ≡ x ∷ drop (i + 1) xs
  from-place xs i x at =
      drop_more xs i x (slice_get_within xs i x at)
      ∙ ap (λ y. y ∷ drop (i + 1) xs) (get_or_from_slice_get xs i x x at)

  module _ (xs ys : List K) (i : ℕ) (x y : K) (at : slice_get xs i ≡ Some x)
      (its : slice_get ys i ≡ Some y) where
    heads : compared (drop i xs) (drop i ys)
        ≡ ordering_then (nat_cmp (number x) (number y)) (compared (drop (i + 1) xs) (drop (i + 1) ys))
    heads =
        ap (λ zs. compared zs (drop i ys)) (from-place xs i x at)
        ∙ ap (compared (x ∷ drop (i + 1) xs)) (from-place ys i y its)

    -- Two elements differ.
    pub compared-unlike : number x ≢ number y
        → compared (drop i xs) (drop i ys) ≡ nat_cmp (number x) (number y)
    compared-unlike unlike =
        heads ∙ then-unlike (number x) (number y) (compared (drop (i + 1) xs) (drop (i + 1) ys)) unlike

    -- Two are alike.
    pub compared-alike : number x ≡ number y
        → compared (drop i xs) (drop i ys) ≡ compared (drop (i + 1) xs) (drop (i + 1) ys)
    compared-alike alike =
        heads ∙ ap (λ r. ordering_then r (compared (drop (i + 1) xs) (drop (i + 1) ys)))
        (sym (nat_cmp_is (number x) (number y) Equal alike))

  by-length : (xs ys : List K) (m n i : ℕ) → length xs ≡ m - i → length ys ≡ n - i → i ≤ m → i ≤ n
      → (m ≤ i) ⊎ (n ≤ i) → compared xs ys ≡ nat_cmp m n
  by-length [] [] m n i size its low also end =
      nat_cmp_is m n Equal (omega (arith, size, its, low, also))
  by-length [] (y ∷ ys) m n i size its low also end =
      nat_cmp_is m n Less (omega (arith, size, its, low, also))
  by-length (x ∷ xs) [] m n i size its low also end =
      nat_cmp_is m n Greater (omega (arith, size, its, low, also))
  by-length (x ∷ xs) (y ∷ ys) m n i size its low also (inl past) =
      absurd (omega (arith, size, low, past))
  by-length (x ∷ xs) (y ∷ ys) m n i size its low also (inr past) =
      absurd (omega (arith, its, also, past))

  -- One of them is at its end.
  pub compared-end : (xs ys : List K) (i : ℕ) → i ≤ length xs → i ≤ length ys
      → (length xs ≤ i) ⊎ (length ys ≤ i)
      → compared (drop i xs) (drop i ys) ≡ nat_cmp (length xs) (length ys)
  compared-end xs ys i low also end =
      by-length (drop i xs) (drop i ys) (length xs) (length ys) i (length-drop i xs)
      (length-drop i ys) low also end
