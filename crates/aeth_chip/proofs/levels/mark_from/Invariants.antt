use Rattle.std.proofs.Common.{◌≡◌, ◌≢◌, ◌⊎◌, ◌+◌, ◌<◌, ◌^◌, ℕ, length, slice_get}
use Rattle.aeth_chip.specs.Levels.{HasBit, HasLevel, half_places}
use Rattle.aeth_chip.proofs.levels.mark_from.Given as goal

-- The places of the half that are no longer left have got the level, and no others.
abbrev pub invariant-bits : goal.invariant-bits
invariant-bits l = record {
  small : l.rest < 2 ^ half_places;
  size : length l.levels ≡ length l.initial.levels;
  left : (i : ℕ) → HasBit l.rest i → HasBit l.half i;
  done : (i : ℕ) → HasBit l.half i → HasBit l.rest i ⊎ HasLevel l.levels (l.base + i) l.level;
  away : (place : ℕ) → ((i : ℕ) → HasBit l.half i → place ≢ l.base + i)
      → slice_get l.levels place ≡ slice_get l.initial.levels place;
}

abbrev pub decreases-bits : goal.decreases-bits
decreases-bits l = l.rest
