-- The places of a run: the shelf that it reads from, and the two sinks that it writes to.
--
--   Files, files_of      what a run sees of a shelf
--   failed_of, NoneFailed      the calls that failed, where the shelf counts these alone; none did
--   IsAfter      what holds of a shelf after some reads, whatever they came to
--   Sinks, Places      the two sinks; the shelf and the two sinks
-- This project's own.
use Rattle.std.proofs.Common.{ℕ, ◌≡◌, ◌≤◌, List, Option, if◌then◌else◌}
use Rattle.aeth_io.specs.{Causes.IsFaultless, declared.shelf.Shelf.Ghosts}

-- What a run sees of a shelf: the contents that it tells, the counts of its faults, and how many
-- calls failed, as far as it tells them.
pub record Files : Type 0 where
  pub content : List ℕ → Option (List ℕ)
  pub faults : List ℕ → ℕ
  pub failed : List ℕ → ℕ

-- How many calls on a name failed, where the shelf counts these alone; else 0, which tells nothing.
abbrev pub failed_of : {H : Type 0} → Ghosts H → H → List ℕ → ℕ
failed_of g shelf name = if g.counts_calls then g.faults shelf name else 0

-- The files of a shelf.
abbrev pub files_of : {H : Type 0} → Ghosts H → H → Files
files_of g shelf = record {
  content = g.content shelf;
  faults = g.faults shelf;
  failed = failed_of g shelf;
}

-- No call on the shelf failed, as far as it tells them.
abbrev pub NoneFailed : Files → Files → Type 0
NoneFailed old new = IsFaultless old.failed new.failed

-- Reads change no content, and no count of faults falls.
pub record IsAfter (old new : Files) : Type 0 where
  pub kept : (name : List ℕ) → new.content name ≡ old.content name
  pub later : (name : List ℕ) → old.faults name ≤ new.faults name

-- The two sinks, as they stand before a text is written or after it.
pub record Sinks (O E : Type 0) : Type 0 where
  pub out : O
  pub err : E

-- A shelf and two sinks, as they stand before a run or after it.
pub record Places (H O E : Type 0) : Type 0 where
  pub shelf : H
  pub out : O
  pub err : E
