-- For each slot marks of some numbers.
--
--   marks_at      the marks of a slot
--   AreFilled      what holds of them, and of the marks of slots in which a number is marked
--   MarksMore, MarksLess      what a mark that comes or goes changes of them
--
-- This project's own.
use Rattle.std.proofs.Common.{◌≡◌, ◌≢◌, ◌<◌, ◌≤◌, ◌^◌, ◌⊎◌, ℕ, List, [], length, All}
use Rattle.std.specs.List.{slice_index_or}
use Rattle.aeth_base.specs.Marks.{bit_of, room_of}

-- The marks of a slot; none where there is no such slot.
abbrev pub marks_at : List (List ℕ) → ℕ → List ℕ
marks_at slots slot = slice_index_or slots slot []

-- A slot is marked in which a number is, and all of these are below an end, for which each slot has room.
pub record AreFilled (slots : List (List ℕ)) (used : List ℕ) (end : ℕ) : Type 0 where
  pub room : length slots < room_of used
  pub few : length slots < 2 ^ 32
  pub ends : All (λ marks. end < room_of marks) slots
  pub low : end ≤ 2 ^ 32
  pub filled : (slot number : ℕ) → bit_of (marks_at slots slot) number ≡ 1 → bit_of used slot ≡ 1
  pub below : (slot number : ℕ) → bit_of (marks_at slots slot) number ≡ 1 → number < end

-- Of the marks of slots none is gone, and those that have come are of one number.
pub record MarksMore (number : ℕ) (old new : List (List ℕ)) : Type 0 where
  pub size : length new ≡ length old
  pub room : (slot : ℕ) → room_of (marks_at new slot) ≡ room_of (marks_at old slot)
  pub kept : (other slot : ℕ) → bit_of (marks_at old slot) other ≡ 1
      → bit_of (marks_at new slot) other ≡ 1
  pub below : (other slot : ℕ) → bit_of (marks_at new slot) other ≡ 1
      → (bit_of (marks_at old slot) other ≡ 1) ⊎ (other ≡ number)

-- Of the marks of slots those of one number in one slot may be gone, and no other.
pub record MarksLess (number slot : ℕ) (old new : List (List ℕ)) : Type 0 where
  pub size : length new ≡ length old
  pub room : (at : ℕ) → room_of (marks_at new at) ≡ room_of (marks_at old at)
  pub away : (other at : ℕ) → (other ≢ number) ⊎ (at ≢ slot)
      → bit_of (marks_at new at) other ≡ bit_of (marks_at old at) other
  pub gone : (other at : ℕ) → bit_of (marks_at new at) other ≡ 1
      → bit_of (marks_at old at) other ≡ 1
