use Rattle.std.proofs.Common.{◌⊎◌, ◌+◌, ◌<◌, ◌^◌, ℕ}
use Rattle.aeth_chip.specs.Levels.{HasBit, IsOrigin, half_places}
use Rattle.aeth_chip.proofs.levels.leading_from.Given as goal

-- What leads to the places of the half that are no longer left is in the set, and nothing else.
abbrev pub invariant-bits : goal.invariant-bits
invariant-bits l = record {
  small : l.rest < 2 ^ half_places;
  left : (i : ℕ) → HasBit l.rest i → HasBit l.half i;
  only : (from : ℕ) → HasBit l.set from
      → (i : ℕ) × HasBit l.half i × IsOrigin l.origins from (l.base + i);
  each : (from i : ℕ) → HasBit l.half i → IsOrigin l.origins from (l.base + i)
      → HasBit l.rest i ⊎ HasBit l.set from;
}

abbrev pub decreases-bits : goal.decreases-bits
decreases-bits l = l.rest
