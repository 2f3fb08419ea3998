-- Walks over a file: what breaks a check, and the first check that is broken.
--
--   next_place, first_broken    the places of a walk's checks, and the first that is broken
--   step, walked, found_by    the same as a cursor that goes from check to check
--   judged    a rule, by the walk over its checks
--   outside, no_name, repeats, place_of, size_of    checks of numbers and names
-- This project's own.
use Rattle.std.proofs.Common.{ℕ, ◌+◌, ℤ, pos, negsuc, ◌&&◌, nat_le, List, [], ◌∷◌, ◌++◌, Option}
use Rattle.std.proofs.Common.{Some, None, Result, Ok, Err, fold, min, position, option_and_then}
use Rattle.std.proofs.Common.{if◌then◌else◌}
use Rattle.std.specs.{List.list_any, Str.bytes_eq}
use Rattle.aeth_base.specs.{Faults.BrokenRule, Faults.broken_as, Name.is_name, Name.name_of}
use Rattle.aeth_base.specs.{declared.shown.Broken.Broken, declared.shown.Shown.Shown}
use Rattle.aeth_base.specs.{declared.shown.Shown.TheVariants.Odd}
use Rattle.aeth_base.specs.{declared.shown.Shown.TheVariants.Number, Shown.shown_text}
use Rattle.aeth_document.specs.Limits.{last_place}
use Rattle.aeth_document.specs.declared.walk.Walk.{Walk, TheVariants.At, TheVariants.Stopped}

-- The place after a place.
abbrev pub next_place : ℕ → ℕ
next_place place = min (place + 1) last_place

-- The first check of a walk that is broken, with its place. The first check stands at `place`,
-- and a check that isn't broken shows nothing.
abbrev pub first_broken : ℕ → List (Option Shown) → Option Broken
first_broken place [] = None
first_broken place (None ∷ checks) = first_broken (next_place place) checks
first_broken place (Some value ∷ checks) = Some (record { place = place; value = value })

-- A walk after one more check: it goes on to the next place, or stops where the check is broken.
abbrev pub step : Walk → Option Shown → Walk
step (At place) None = At (next_place place)
step (At place) (Some value) = Stopped (record { place = place; value = value })
step (Stopped broken) check = Stopped broken

-- A walk after some more checks.
unfoldable pub walked : Walk → List (Option Shown) → Walk
walked walk checks = fold step walk checks

-- The broken check where a walk has stopped.
abbrev pub found_by : Walk → Option Broken
found_by (At place) = None
found_by (Stopped broken) = Some broken

-- A rule, by its number and its name: it is kept where the walk over its checks finds nothing, and
-- else broken at the place and by the value that are found.
abbrev pub judged : ℕ → List ℕ → Option Broken → Result (Unit {0}) BrokenRule
judged rule name None = Ok tt
judged rule name (Some broken) = Err (broken_as rule name broken)

-- A number that is out of its range.
abbrev pub outside : ℕ → ℕ → ℤ → Option Shown
outside low high (pos n) = if nat_le low n && nat_le n high then None else Some (Number n)
outside low high (negsuc n) = Some Odd

-- A text that is no name.
abbrev pub no_name : List ℕ → Option Shown
no_name text = if is_name text then None else Some Odd

-- A text that is among some others.
abbrev pub repeated : List (List ℕ) → List ℕ → Option Shown
repeated others text = if list_any (bytes_eq text) others then Some (shown_text text) else None

-- For each text whether it equals one of the others or an earlier one. The texts needn't be names.
abbrev pub repeats : List (List ℕ) → List (List ℕ) → List (Option Shown)
repeats others [] = []
repeats others (text ∷ texts) = repeated others text ∷ repeats (others ++ text ∷ []) texts

-- The place of a text among the names.
abbrev pub place_of : List (List ℕ) → List ℕ → Option ℕ
place_of names text = option_and_then (λ name. position (bytes_eq name) names) (name_of text)

-- A number as a count, 0 for one below 0.
abbrev pub size_of : ℤ → ℕ
size_of (pos n) = n
size_of (negsuc n) = 0
