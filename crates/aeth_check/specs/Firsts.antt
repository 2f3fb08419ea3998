-- The first lines of a list that pass a test, alone or as a pair.
--
--   first_line      the line of the first item that passes
--   first_pair      the lines of the first pair of items that passes
-- This project's own.
use Rattle.std.proofs.Common.{ℕ, Bool, List, [], ◌∷◌, Option, Some, None, if◌then◌else◌}
use Rattle.aeth_text.specs.Order.{line_after}

-- The line of the first item that passes a test. The first item of the list stands on `line`.
abbrev pub first_line : {X : Type 0} → (X → Bool) → ℕ → List X → Option ℕ
first_line test line [] = None
first_line test line (x ∷ xs) = if test x then Some line else first_line test (line_after line 1) xs

-- A line with another, where there is one, and else a later pair.
abbrev pub pair_or : ℕ → Option ℕ → Option (ℕ × ℕ) → Option (ℕ × ℕ)
pair_or line None later = later
pair_or line (Some other) later = Some (line, other)

-- The lines of the first pair of items that passes a test: the first of them has the least line,
-- and of several pairs with this one the other has. The first item of the list stands on `line`.
abbrev pub first_pair : {X : Type 0} → (X → X → Bool) → ℕ → List X → Option (ℕ × ℕ)
first_pair test line [] = None
first_pair test line (x ∷ xs) = pair_or line (first_line (test x) (line_after line 1) xs)
    (first_pair test (line_after line 1) xs)
