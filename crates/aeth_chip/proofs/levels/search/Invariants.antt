use Rattle.std.proofs.Common.{◌+◌, ◌<◌, ◌^◌, length, min}
use Rattle.aeth_chip.specs.Levels.{IsOrigin}
use Rattle.aeth_chip.proofs.{LevelLemmas.Found, RoundLemmas.AreUnseen, SpreadLemmas.count_none}
use Rattle.aeth_chip.proofs.levels.search.Given as goal

-- What is found after so many rounds, and the places that have no level.
abbrev pub invariant-rounds : goal.invariant-rounds
invariant-rounds l = record {
  found : Found (IsOrigin l.origins) l.routers l.goal (length l.origins) l.level l.frontier
      l.levels;
  small : l.frontier < 2 ^ 128;
  unseen : AreUnseen (length l.origins) l.unseen l.levels;
}

-- The places without a level, and whether there are some to go on from.
abbrev pub decreases-rounds : goal.decreases-rounds
decreases-rounds l = count_none l.levels + min 1 l.frontier
