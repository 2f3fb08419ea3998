-- What the loop keeps that finds the gap of a set.
use Rattle.std.proofs.Common.{ℕ, ◌+◌, ◌<◌, ◌≡◌, max, List}
use Rattle.aeth_slots.specs.SlotSet.{Slots, Ascends, distances, greatest, gap_of}

-- The greatest distance up to the last slot that was seen, and the slots that are still to come.
pub record IsGapSoFar (set : Slots) (first last widest : ℕ) (rest : List ℕ) : Type 0 where
  pub below : last < set.size
  pub ascends : Ascends (last + 1) set.size rest
  pub gap_is : max widest (greatest (distances last rest (first + set.size))) ≡ gap_of set
