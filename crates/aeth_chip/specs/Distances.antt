-- What the table of least numbers of links has.
-- This project's own.
use Rattle.std.proofs.Common.{◌≡◌, ◌+◌, ◌<◌, ◌≤◌, ℕ, List, Option, Some, None, length, slice_get}
use Rattle.std.specs.declared.{vec.Vec.Vec, alloc.Global.Global}
use Rattle.aeth_base.specs.declared.ids.{NiId.NiId, RouterId.RouterId}
use Rattle.aeth_chip.specs.{declared.node.Link.Link, Index.HasEntries, Levels.AreLevels}
use Rattle.aeth_chip.specs.{Levels.IsOrigin, Limits.max_routers, Nodes.IsBelow, Paths.IsDistance}
use Rattle.aeth_chip.specs.{Paths.IsOnwardDistance}

-- An entry that may be beyond the row.
abbrev pub entry_in : Option (Option ℕ) → Option ℕ
entry_in (Some entry) = entry
entry_in None = None

-- The entry of a row at a place, where there is such a row.
abbrev pub entry_of : Option (Vec (Option ℕ) Global) → ℕ → Option ℕ
entry_of (Some row) place = entry_in (slice_get row.items place)
entry_of None place = None

-- The entry for a place before a goal.
abbrev pub entry_at : List (Vec (Option ℕ) Global) → ℕ → ℕ → Option ℕ
entry_at rows goal place = entry_of (slice_get rows goal) place

-- A row for each interface: the least number of links from each router, then from each interface.
pub record AreRows (links : List Link) (routers : ℕ) (rows : List (Vec (Option ℕ) Global))
    : Type 0 where
  pub between : (a b : NiId) → IsDistance links a b (entry_at rows b.0 (routers + a.0))
  pub onward : (r : RouterId) (b : NiId) → r.0 < routers
      → IsOnwardDistance links r b (entry_at rows b.0 r.0)
  pub beyond : (r : RouterId) (b : NiId) → routers ≤ r.0 → IsOnwardDistance links r b None

-- A row for each of so many interfaces: the levels before it, whose place is behind the routers'.
abbrev pub AreLevelRows : List ℕ → ℕ → ℕ → List (Vec (Option ℕ) Global) → Type 0
AreLevelRows origins routers count rows = HasEntries (λ b row.
    AreLevels (IsOrigin origins) routers (routers + b) (length origins) row.items) count rows

-- The links lead to routers of so few, or to interfaces.
abbrev pub AreBelow : List Link → ℕ → Type 0
AreBelow links routers = (l : ℕ) (link : Link) → slice_get links l ≡ Some link
    → IsBelow routers link.to

-- The rows for the links of a chip with so many routers.
pub record IsDistanceTable (links : List Link) (routers : ℕ)
    (rows : List (Vec (Option ℕ) Global)) : Type 0 where
  pub rows_are : AreRows links routers rows
  pub below : AreBelow links routers
  pub few : routers ≤ max_routers
