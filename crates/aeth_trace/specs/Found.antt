-- Connections that were found by their names.
-- This project's own.
use Rattle.std.proofs.Common.{◌≡◌, ℕ, All, IfSome, List, Option}
use Rattle.aeth_trace.specs.{Fields.named, declared.found.Found.Found}

-- A number is that of a name among these.
abbrev pub IsFound : List (List ℕ) → Found → Type 0
IsFound names one = one.number ≡ named names one.name

-- Each name that is kept has its number among these.
abbrev pub AreFound : List (List ℕ) → List (Option Found) → Type 0
AreFound names found = All (λ kept. IfSome kept (IsFound names)) found
