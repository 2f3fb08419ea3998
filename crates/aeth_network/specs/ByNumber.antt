-- Lists whose elements are changed by their numbers.
--
--   each_by      each element by its number, from a number on
-- This project's own.
use Rattle.std.proofs.Common.{ℕ, suc, List, [], ◌∷◌}

-- Each element by its number, from a number on.
abbrev pub each_by : {X : Type 0} → (ℕ → X → X) → ℕ → List X → List X
each_by change number [] = []
each_by change number (x ∷ xs) = change number x ∷ each_by change (suc number) xs
