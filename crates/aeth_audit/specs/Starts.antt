-- How many rows of a log come before each cycle.
--
--   IsStart      how many rows come before a cycle
--   AreStarts      that of each cycle, up to that of the last row
--   AreIndexed      the rows of a log with these
--   PutsUntil      the cycles up to one got a number
-- This project's own.
use Rattle.std.proofs.Common.{◌≡◌, ◌⊎◌, ◌<◌, ◌≤◌, ℕ, List, Some, length, slice_get}
use Rattle.std.specs.List.Sorted.{IsPartitionPoint}
use Rattle.aeth_text.specs.Order.{Rises}
use Rattle.aeth_audit.specs.{Limits.max_link_rows, LinkLog.is_later, declared.row.LinkRow.LinkRow}
use Rattle.aeth_audit.specs.{declared.starts.IndexedRows.IndexedRows}

-- So many rows come before a cycle: the first ones.
pub record IsStart (rows : List LinkRow) (cycle count : ℕ) : Type 0 where
  pub within : count ≤ length rows
  pub point : IsPartitionPoint (λ row. row.cycle < cycle) (λ row. cycle ≤ row.cycle) rows count

-- Each cycle has the number of the rows before it. Behind the cycles that are listed no row comes.
pub record AreStarts (rows : List LinkRow) (starts : List ℕ) : Type 0 where
  pub each : (cycle count : ℕ) → slice_get starts cycle ≡ Some count → IsStart rows cycle count
  pub last : (cycle : ℕ) → length starts ≤ cycle → IsStart rows cycle (length rows)

-- The rows of a log rise and are not too many, and each cycle has the number of those before it.
pub record AreIndexed (log : IndexedRows) : Type 0 where
  pub rise : Rises is_later log.rows.now
  pub few : length log.rows.now ≤ max_link_rows
  pub starts : AreStarts log.rows.now log.starts.now

-- The cycles up to this one that had no number got this one.
pub record PutsUntil (cycle number : ℕ) (old new : List ℕ) : Type 0 where
  pub longer : length old ≤ length new
  pub until : cycle < length new
  pub only : (at count : ℕ) → slice_get new at ≡ Some count
      → slice_get old at ≡ Some count
      ⊎ ((count ≡ number) × (length old ≤ at) × (at ≤ cycle))
