-- Lists in order, and the numbers of lines.
--
--   line_after      the number of a line so many lines on
--   Rises      each item comes after the one before it
--   misplaced      the line of the first item that doesn't
-- This project's own.
use Rattle.std.proofs.Common.{ℕ, ◌+◌, min, Bool, List, [], ◌∷◌, Option, Some, None, IsTrue}
use Rattle.std.proofs.Common.{if◌then◌else◌}
use Rattle.aeth_text.specs.Limits.{last_line}

-- The number of the line so many lines after a line.
abbrev pub line_after : ℕ → ℕ → ℕ
line_after line count = min (line + count) last_line

-- Each item comes after the one before it; the first of the list comes after `last`.
abbrev pub RisesAfter : {X : Type 0} → (X → X → Bool) → X → List X → Type 0
RisesAfter before last [] = Unit {0}
RisesAfter before last (x ∷ xs) = IsTrue (before last x) × RisesAfter before x xs

-- Each item comes after the one before it.
abbrev pub Rises : {X : Type 0} → (X → X → Bool) → List X → Type 0
Rises before [] = Unit {0}
Rises before (x ∷ xs) = RisesAfter before x xs

-- The line of the first item that doesn't come after the one before it. The first item of the list
-- stands on `line`, and `last` comes before it.
abbrev pub misplaced_after : {X : Type 0} → (X → X → Bool) → X → ℕ → List X → Option ℕ
misplaced_after before last line [] = None
misplaced_after before last line (x ∷ xs) =
    if before last x then misplaced_after before x (line_after line 1) xs else Some line

-- The line of the first item that doesn't come after the one before it. The first item of the list
-- stands on `line`.
abbrev pub misplaced : {X : Type 0} → (X → X → Bool) → ℕ → List X → Option ℕ
misplaced before line [] = None
misplaced before line (x ∷ xs) = misplaced_after before x (line_after line 1) xs
