-- How many connections each core has, and the positions of these, as tables keep them.
--
--   AreEndCounts    how many connections each core has
--   IsPlaced, ArePositions    the positions of connections at their ends
-- This project's own.
use Rattle.std.proofs.Common.{◌≡◌, ◌<◌, ℕ, List, Some, length, count_by, slice_get, slice_index_or}
use Rattle.aeth_base.specs.declared.ids.CoreId.{CoreId}
use Rattle.aeth_chip.specs.Index.{HasEntries}
use Rattle.aeth_app.specs.App.{is_end, position_of}
use Rattle.aeth_app.specs.declared.{connection.Connection.Connection, ends.Positions.Positions}

-- For each of so many cores how many of the connections have it as an end.
pub record AreEndCounts (cores : ℕ) (connections : List Connection) (counts : List ℕ)
    : Type 0 where
  pub size : length counts ≡ cores
  pub each : (core : CoreId) → core.0 < cores
      → slice_index_or counts core.0 0 ≡ count_by (is_end core) connections

-- The positions of a connection at its two ends.
pub record IsPlaced (connections : List Connection) (i : ℕ) (its : Positions) : Type 0 where
  pub from : (c : Connection) → slice_get connections i ≡ Some c
      → its.from ≡ position_of connections c.from i
  pub to : (c : Connection) → slice_get connections i ≡ Some c
      → its.to ≡ position_of connections c.to i

-- Those of all connections.
abbrev pub ArePositions : List Connection → List Positions → Type 0
ArePositions connections positions =
    HasEntries (IsPlaced connections) (length connections) positions
