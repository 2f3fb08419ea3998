-- Lists that rise by a test that goes on and on along them and holds of no item and itself.
use Rattle.std.proofs.Common.{◌≡◌, ◌∙◌, ℕ, zero, suc, ◌<◌, Bool, true, List, [], ◌∷◌, length}
use Rattle.std.proofs.Common.{get_or, inl, inr, refl, sym, ap, arith, Contains}
use Rattle.aeth_base.proofs.Members.{Contains-cases, Contains-here, Contains-nil, Contains-there}
use Rattle.aeth_text.specs.Order.{Rises, RisesAfter}

module _ {X : Type 0} (before : X → X → Bool)
    (chain : (a b c : X) → before a b ≡ true → before b c ≡ true → before a c ≡ true) where
  -- Each item of the list comes after the last one.
  after_all : (last : X) (xs : List X) → RisesAfter before last xs → (k : ℕ) (d : X)
      → k < length xs → before last (get_or xs k d) ≡ true
  after_all last [] rising k d within = absurd (omega arith)
  after_all last (x ∷ xs) rising zero d within = rising.0
  after_all last (x ∷ xs) rising (suc k) d within =
      chain last x (get_or xs k d) rising.0 (after_all x xs rising.1 k d (omega arith))

  rises_rest : (x : X) (xs : List X) → RisesAfter before x xs → Rises before xs
  rises_rest x [] rising = tt
  rises_rest x (y ∷ ys) rising = rising.1

  -- Each item comes before each later one.
  pub rising_pairs : (xs : List X) → Rises before xs → (i j : ℕ) (d : X) → i < j
      → j < length xs → before (get_or xs i d) (get_or xs j d) ≡ true
  rising_pairs [] rising i j d below within = absurd (omega arith)
  rising_pairs (x ∷ xs) rising i zero d below within = absurd (omega arith)
  rising_pairs (x ∷ xs) rising zero (suc j) d below within =
      after_all x xs rising j d (omega arith)
  rising_pairs (x ∷ xs) rising (suc i) (suc j) d below within =
      rising_pairs xs (rises_rest x xs rising) i j d (omega arith) (omega arith)

  module _ (never : (a : X) → before a a ≡ true → ⊥) where
    after_each : (x : X) (xs : List X) (y : X) → RisesAfter before x xs → Contains xs y
        → before x y ≡ true
    after_each x xs y rising has =
        sym (ap (before x) has.2) ∙ after_all x xs rising has.0 y has.1

    same_heads : (x : X) (xs : List X) (y : X) (ys : List X) → RisesAfter before x xs
        → RisesAfter before y ys → Contains (y ∷ ys) x → Contains (x ∷ xs) y → x ≡ y
    same_heads x xs y ys rising other there back = elim (Contains-cases y ys x there) [
      | inl same ↦ sym same
      | inr later ↦ elim (Contains-cases x xs y back) [
        | inl same ↦ same
        | inr after ↦ absurd (never x (chain x y x (after_each x xs y rising after)
            (after_each y ys x other later)))
      ]
    ]

    -- What is in the rest of one is in the rest of the other.
    in_rest : (x : X) (xs : List X) (y : X) (ys : List X) → RisesAfter before x xs → x ≡ y
        → ((z : X) → Contains (x ∷ xs) z → Contains (y ∷ ys) z)
        → (z : X) → Contains xs z → Contains ys z
    in_rest x xs y ys rising same there z has =
        elim (Contains-cases y ys z (there z (Contains-there x xs z has))) [
          | inl head ↦ absurd (never x (ap (before x) (same ∙ head)
              ∙ after_each x xs z rising has))
          | inr later ↦ later
        ]

    -- Two lists of the same items that rise are the same.
    pub rising_same : (xs ys : List X) → Rises before xs → Rises before ys
        → ((z : X) → Contains xs z → Contains ys z) → ((z : X) → Contains ys z → Contains xs z)
        → xs ≡ ys
    rising_same [] [] rising other there back = refl
    rising_same [] (y ∷ ys) rising other there back =
        Contains-nil (back y (Contains-here y ys))
    rising_same (x ∷ xs) [] rising other there back =
        Contains-nil (there x (Contains-here x xs))
    rising_same (x ∷ xs) (y ∷ ys) rising other there back =
        let same = same_heads x xs y ys rising other (there x (Contains-here x xs))
        (back y (Contains-here y ys)) in
        let rest = rising_same xs ys (rises_rest x xs rising) (rises_rest y ys other)
        (in_rest x xs y ys rising same there) (in_rest y ys x xs other (sym same) back) in
        λ i. same i ∷ rest i
