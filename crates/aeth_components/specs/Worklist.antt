-- Marks of numbers of which few are marked at a time.
--
--   AreBetween      just numbers from a least one to a greatest are marked
--
-- This project's own.
use Rattle.std.proofs.Common.{◌≡◌, ◌<◌, ◌≤◌, ◌^◌, ℕ, List}
use Rattle.aeth_base.specs.Marks.{bit_of, room_of}

-- Just numbers from a least one to a greatest are marked, and there is room for these.
pub record AreBetween (masks : List ℕ) (least greatest : ℕ) : Type 0 where
  pub room : greatest < room_of masks
  pub few : room_of masks ≤ 2 ^ 63
  pub low : least ≤ room_of masks
  pub since : (number : ℕ) → bit_of masks number ≡ 1 → least ≤ number
  pub until : (number : ℕ) → bit_of masks number ≡ 1 → number ≤ greatest
