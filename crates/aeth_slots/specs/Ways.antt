-- The words of the search for the chosen set: ways over free slots from a slot to an end.
-- Once round the table is a way from a slot to the same slot one table later.
--
--   IsWay, Reaches, ReachesWithin      a way, and whether there is one over so many slots
--   IsEarliest, AreEarliest, IsNextOnWay      the least free slots from which an end is reached
--   IsFewest, IsFirstWay, AddsFirstWay      the fewest slots of a way, and the first of these ways
--   IsRound, HasRound, StartsWithin      ways once round the table
--   IsLeastSize, IsFirstMember, IsFirstRound      the number of slots of a round, and the first of these rounds
--
use Rattle.std.proofs.Common.{ℕ, ◌+◌, ◌<◌, ◌≤◌, ◌≡◌, ◌≢◌, List, [], ◌∷◌, ◌++◌, length, Contains}
use Rattle.std.proofs.Common.{max, slice_index}
use Rattle.std.specs.{declared.cmp.Ordering.TheVariants.Less, Ordering.nat_cmp}
use Rattle.std.specs.{Cmp.Lexicographic.slice_cmp}
use Rattle.aeth_slots.specs.SlotSet.{Slots}

-- From a slot over free slots, each after the one before, to an end: no step is above the gap.
abbrev pub IsWay : List ℕ → ℕ → ℕ → ℕ → List ℕ → Type 0
IsWay free end gap from [] = end ≤ from + gap
IsWay free end gap from (next ∷ rest) =
    Contains free next × (from < next) × (next ≤ from + gap) × IsWay free end gap next rest

-- There is a way over so many slots.
abbrev pub Reaches : List ℕ → ℕ → ℕ → ℕ → ℕ → Type 0
Reaches free end gap from count =
    (way : List ℕ) × IsWay free end gap from way × (length way ≡ count)

-- There is a way over at most so many slots.
abbrev pub ReachesWithin : List ℕ → ℕ → ℕ → ℕ → ℕ → Type 0
ReachesWithin free end gap from most =
    (way : List ℕ) × IsWay free end gap from way × (length way ≤ most)

-- The free slot from which on each one reaches the end over at most so many slots.
pub record IsEarliest (free : List ℕ) (end gap most slot : ℕ) : Type 0 where
  pub member : Contains free slot
  pub later : (from : ℕ) → Contains free from → slot ≤ from → ReachesWithin free end gap from most
  pub earlier : (from : ℕ) → Contains free from → ReachesWithin free end gap from most → slot ≤ from

-- For each number of slots below a count, the earliest slot over at most so many.
pub record AreEarliest (free : List ℕ) (end gap count : ℕ) (slots : List ℕ) : Type 0 where
  pub each : (most : ℕ) → most < count → IsEarliest free end gap most (slice_index slots most)

-- The least free slot after `from` that reaches the end over at most so many slots.
pub record IsNextOnWay (free : List ℕ) (end gap from most slot : ℕ) : Type 0 where
  pub member : Contains free slot
  pub after : from < slot
  pub reaches : ReachesWithin free end gap slot most
  pub least : (other : ℕ) → Contains free other → from < other
      → ReachesWithin free end gap other most → slot ≤ other

-- The fewest slots on a way from a slot to an end.
pub record IsFewest (free : List ℕ) (end gap from count : ℕ) : Type 0 where
  pub reaches : ReachesWithin free end gap from count
  pub fewest : (way : List ℕ) → IsWay free end gap from way → count ≤ length way

-- The way over so many slots before which none comes lexicographically.
pub record IsFirstWay (free : List ℕ) (end gap from count : ℕ) (way : List ℕ) : Type 0 where
  pub way_is : IsWay free end gap from way
  pub count_is : length way ≡ count
  pub first : (other : List ℕ) → IsWay free end gap from other → length other ≡ count
      → slice_cmp nat_cmp other way ≢ Less

-- A first way was put behind the slots that were there.
abbrev pub AddsFirstWay : List ℕ → ℕ → ℕ → ℕ → ℕ → List ℕ → List ℕ → Type 0
AddsFirstWay free end gap from count old new =
    (way : List ℕ) × (new ≡ old ++ way) × IsFirstWay free end gap from count way

-- Free slots once round the table, with no step above the gap.
abbrev pub IsRound : Slots → ℕ → List ℕ → Type 0
IsRound free gap [] = ⊥
IsRound free gap (first ∷ way) =
    Contains free.slots first × IsWay free.slots (first + free.size) gap first way

-- There is a round of so many slots.
abbrev pub HasRound : Slots → ℕ → ℕ → Type 0
HasRound free gap count = (round : List ℕ) × IsRound free gap round × (length round ≡ count)

-- A round over at most so many further slots starts there.
abbrev pub StartsWithin : Slots → ℕ → ℕ → ℕ → Type 0
StartsWithin free gap more first =
    Contains free.slots first × ReachesWithin free.slots (first + free.size) gap first more

-- The number of slots of a round: no round has fewer, or no more slots are needed.
pub record IsLeastSize (free : Slots) (need gap count : ℕ) : Type 0 where
  pub has : HasRound free gap count
  pub least : (round : List ℕ) → IsRound free gap round → count ≤ max need (length round)

-- The least first slot of a round over so many further slots.
pub record IsFirstMember (free : Slots) (gap more first : ℕ) : Type 0 where
  pub member : Contains free.slots first
  pub reaches : Reaches free.slots (first + free.size) gap first more
  pub least : (round : List ℕ) (start : ℕ) → IsRound free gap (start ∷ round)
      → length round ≡ more → first ≤ start

-- The round of so many slots before which none comes lexicographically.
pub record IsFirstRound (free : Slots) (gap count : ℕ) (round : List ℕ) : Type 0 where
  pub round_is : IsRound free gap round
  pub count_is : length round ≡ count
  pub first : (other : List ℕ) → IsRound free gap other → length other ≡ count
      → slice_cmp nat_cmp other round ≢ Less
