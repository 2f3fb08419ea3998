-- What was read at the front of a list, and what is still read.
use Rattle.std.proofs.Common.{List, ◌++◌, Option, option_map}

-- The values so far, and those of the words that are left.
abbrev pub with_front : {X : Type 0} → List X → Option (List X) → Option (List X)
with_front front later = option_map (λ xs. front ++ xs) later
