-- The invariants of the loops over lines.
use Rattle.std.proofs.Common.{◌≡◌, ◌∙◌, ◌++◌, ◌∷◌, [], ℕ, List, Result, Ok, ap, sym}
use Rattle.aeth_base.specs.Faults.{BrokenRule}
use Rattle.aeth_document.{specs.Chain.◌>>=◌, proofs.Fronts.front_later, proofs.Fronts.with_front}
use Rattle.aeth_text.specs.Order.{line_after}
use Rattle.aeth_plan.specs.Rules.{each}

-- What one more line gave.
pub front_more : {X Y : Type 0} (f : ℕ → X → Result Y BrokenRule) (line : ℕ) (x : X) (xs : List X)
    (front : List Y) (y : Y) → f line x ≡ Ok y
    → with_front (front ++ y ∷ []) (each f (line_after line 1) xs)
    ≡ with_front front (each f line (x ∷ xs))
front_more {X} {Y} f line x xs front y is =
    front_later front y (each f (line_after line 1) xs)
    ∙ ap (λ (r : Result Y BrokenRule). with_front front
    (r >>= (λ z. each f (line_after line 1) xs >>= (λ ys. Ok (z ∷ ys))))) (sym is)
