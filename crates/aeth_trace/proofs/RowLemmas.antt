-- Rows that are read one after the other.
use Rattle.std.proofs.Common.{◌≡◌, ◌+◌, ◌++◌, ℕ, List, [], ◌∷◌, Option, Some, sym}
use Rattle.aeth_document.proofs.Fronts.{front_later, with_front}
use Rattle.aeth_trace.specs.Rules.{rows_from}

-- One more record was read, which tells a row.
pub rows_from-step : {A : Type 0} (tell : List (List ℕ) → Option A) (row : ℕ) (rows : List A)
    (old new : List (List (List ℕ))) (fields : List (List ℕ)) (told : A) → old ≡ fields ∷ new
    → Some told ≡ tell fields
    → with_front rows (rows_from tell row old)
    ≡ with_front (rows ++ told ∷ []) (rows_from tell (row + 1) new)
rows_from-step tell row rows old new fields told taken is =
    rw taken (rw (← is) (sym (front_later rows told (rows_from tell (row + 1) new))))
