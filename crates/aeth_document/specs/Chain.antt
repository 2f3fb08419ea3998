-- Rules that are judged one after the other.
-- This project's own.
use Rattle.std.proofs.Common.{Result, Ok, Err}

-- What the first gives is handed on; a broken rule ends the chain.
infixl 10 ◌>>=◌
abbrev pub ◌>>=◌ : {A B E : Type 0} → Result A E → (A → Result B E) → Result B E
(Ok value) >>= next = next value
(Err broken) >>= next = Err broken
