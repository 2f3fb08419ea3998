-- The pieces of a line of five numbers.
use Rattle.std.proofs.Common.{◌≡◌, ◌∙◌, ◌++◌, ◌∷◌, ℕ, List, ap, append_assoc}

-- What stands behind five pieces stands behind the last of them.
pub behind-five : (c : ℕ) (p q r s t end : List ℕ)
    → (p ++ c ∷ (q ++ c ∷ (r ++ c ∷ (s ++ c ∷ t)))) ++ end
    ≡ p ++ c ∷ (q ++ c ∷ (r ++ c ∷ (s ++ c ∷ (t ++ end))))
behind-five c p q r s t end =
    append_assoc p (c ∷ (q ++ c ∷ (r ++ c ∷ (s ++ c ∷ t)))) end
    ∙ ap (λ (text : List ℕ). p ++ c ∷ text)
    (append_assoc q (c ∷ (r ++ c ∷ (s ++ c ∷ t))) end
    ∙ ap (λ (text : List ℕ). q ++ c ∷ text)
    (append_assoc r (c ∷ (s ++ c ∷ t)) end
    ∙ ap (λ (text : List ℕ). r ++ c ∷ text) (append_assoc s (c ∷ t) end)))
