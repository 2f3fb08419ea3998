-- What a call answers where its definition is a value or a fault.
-- This project's own.
use Rattle.std.proofs.Common.{◌≡◌, ◌⊎◌, Result, Ok, Err}

-- The call gives what the definition gives, or memory ran out.
-- The value is compared as the view shows it.
abbrev pub Gives : {X Y E : Type 0} → E → (X → Y) → Result X E → Result Y E → Type 0
Gives memory view (Ok value) defined = defined ≡ Ok (view value)
Gives memory view (Err fault) defined = (fault ≡ memory) ⊎ (defined ≡ Err fault)
