-- What was written to a sink, which may not tell it.
-- This project's own.
use Rattle.std.proofs.Common.{ℕ, ◌≡◌, ◌<◌, ◌++◌, List, length, Option, Some, None}

-- What was written before, and then these bytes. A sink that tells nothing still tells nothing.
abbrev pub appended : Option (List ℕ) → List ℕ → Option (List ℕ)
appended None bytes = None
appended (Some before) bytes = Some (before ++ bytes)

-- Some bytes of the text, from its first on, or none; but not all.
pub record IsProperPrefix (front text : List ℕ) : Type 0 where
  pub rest : List ℕ
  pub more : 0 < length rest
  pub joined : front ++ rest ≡ text

-- A proper prefix of the text was appended.
pub record AppendsProperPrefix (before after : Option (List ℕ)) (text : List ℕ) : Type 0 where
  pub front : List ℕ
  pub written : after ≡ appended before front
  pub proper : IsProperPrefix front text
