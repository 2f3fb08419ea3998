-- How many links the paths of a try may have from one of its senders. This project's own.
--
--   most_by, most_to      the most links of a path to an interface
--   IsReach      tables of the most links to interfaces, and of the most to routers on the way
use Rattle.std.proofs.Common.{◌≡◌, ◌<◌, ◌≤◌, ◌+◌, ◌&&◌, ◌==◌, ℕ, List, Option, None, Some, length}
use Rattle.std.proofs.Common.{min, not, if◌then◌else◌, slice_index}
use Rattle.std.specs.List.{list_any}
use Rattle.aeth_base.specs.Limits.{max_path_links}
use Rattle.aeth_base.specs.declared.ids.{NiId.NiId, RouterId.RouterId}
use Rattle.aeth_chip.specs.{Chip.ChipData, LeastDistance.least_distance, Paths.IsOnwardDistance}
use Rattle.aeth_paths.specs.{Open.is_crowded, Trials.TrialData}

-- The most links of a path, by the least number of those that lead there and a detour.
abbrev pub most_by : ℕ → Option ℕ → ℕ
most_by detour None = 0
most_by detour (Some least) = min (least + detour) max_path_links

-- The most links of a path that the try may take from an interface to another; 0 where it may take none.
abbrev pub most_to : ChipData → TrialData → NiId → NiId → ℕ
most_to chip trial a b =
    if list_any (λ (n : NiId). n.0 == b.0) trial.to && not (is_crowded trial.crowded a b)
    then most_by trial.ask.detour (least_distance chip a b) else 0

-- A table has for each interface the most links of a path to it, and another for each router at
-- least the most that a path has until it comes there.
pub record IsReach (chip : ChipData) (trial : TrialData) (a : NiId) (to at : List ℕ) : Type 0 where
  pub interfaces : length to ≡ length chip.nis
  pub routers : length at ≡ length chip.routers
  pub most : (b : NiId) → b.0 < length chip.nis → slice_index to b.0 ≡ most_to chip trial a b
  pub near : (r : RouterId) (b : NiId) (more : ℕ) → r.0 < length chip.routers
      → b.0 < length chip.nis → 1 ≤ most_to chip trial a b
      → IsOnwardDistance chip.links r b (Some more)
      → most_to chip trial a b ≤ slice_index at r.0 + more
