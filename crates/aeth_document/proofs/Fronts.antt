-- What was read at the front of a list, and what is still read, where the first broken rule ends the reading.
use Rattle.std.proofs.Common.{◌≡◌, ◌++◌, List, [], ◌∷◌, Result, Ok, Err, refl, append_assoc}
use Rattle.aeth_base.specs.Faults.{BrokenRule}
use Rattle.aeth_document.specs.Chain.{◌>>=◌}

-- The values so far, and those of what is left.
abbrev pub with_front : {X : Type 0} → List X → Result (List X) BrokenRule
    → Result (List X) BrokenRule
with_front front later = later >>= (λ xs. Ok (front ++ xs))

-- Before the first one nothing was read.
pub front_none : {X : Type 0} (later : Result (List X) BrokenRule) → with_front [] later ≡ later
front_none (Ok xs) = refl
front_none (Err broken) = refl

-- A value at the end of the front, or before what later ones give.
pub front_later : {X : Type 0} (front : List X) (x : X) (later : Result (List X) BrokenRule)
    → with_front (front ++ x ∷ []) later ≡ with_front front (later >>= (λ xs. Ok (x ∷ xs)))
front_later front x (Ok xs) = rw (append_assoc front (x ∷ []) xs) refl
front_later front x (Err broken) = refl
