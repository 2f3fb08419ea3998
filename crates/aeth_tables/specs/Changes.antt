-- How long switches between use cases take, by what each connection adds. A switch that closes or
-- opens a connection has its greater path delay, and its writes.
--
--   change_of, HasLinks      what a connection adds
--   made, lag_in, writes_in, span_in      what is added to a switch
--   changes_at, spans_in      what is added to all switches from a use case
--   most_writes, AreFew      how much that is at most
-- This project's own.
use Rattle.std.proofs.Common.{◌<◌, ◌≤◌, ℕ, ◌+◌, ◌*◌, not, List, [], All, filter, length, map, max}
use Rattle.std.proofs.Common.{sum_by}
use Rattle.std.specs.List.{range_with_len, slice_index_or}
use Rattle.aeth_base.specs.Limits.{max_slots}
use Rattle.aeth_slots.specs.SlotSet.{greatest}
use Rattle.aeth_chip.specs.{Chip.ChipData, Paths.path_delay}
use Rattle.aeth_app.specs.Limits.{max_connections}
use Rattle.aeth_group.specs.{Members.GroupsData, Members.is_kept, declared.grant.Grant.Grant}
use Rattle.aeth_tables.specs.declared.changes.Change.{Change}
use Rattle.aeth_tables.specs.declared.granted.GrantedConnection.{GrantedConnection}

-- What a connection adds to a switch that closes or opens it: of both its channels the greater path
-- delay, a write for each slot, and one for the route.
abbrev pub change_of : ChipData → GrantedConnection → Change
change_of chip one = record {
  conn = one.conn;
  lag = max (path_delay chip.links one.fwd.path) (path_delay chip.links one.back.path);
  writes = (length one.fwd.slots.slots + 1) + (length one.back.slots.slots + 1);
}

-- The links of a grant's path are those of the chip.
abbrev pub HasLinks : ChipData → Grant → Type 0
HasLinks chip grant = All (λ link. link.0 < length chip.links) grant.path

-- Those of some changes that a switch between two use cases makes: it doesn't keep the connection.
abbrev pub made : GroupsData → ℕ → ℕ → List Change → List Change
made groups u v changes = filter (λ change. not (is_kept groups u v change.conn.0)) changes

-- The greatest lag of some changes.
abbrev pub lag_in : List Change → ℕ
lag_in changes = greatest (map (λ change. change.lag) changes)

-- The writes of some changes.
abbrev pub writes_in : List Change → ℕ
writes_in changes = sum_by (λ change. change.writes) changes

-- The lag and the writes of a switch, by the changes of the use case that is left, and of the one that
-- is entered.
abbrev pub span_in : GroupsData → ℕ → ℕ → List Change → List Change → ℕ × ℕ
span_in groups u v closing opening = (
  lag_in (made groups u v closing),
  writes_in (made groups u v closing) + writes_in (made groups u v opening),
)

-- The changes of a use case, by those of all.
abbrev pub changes_at : List (List Change) → ℕ → List Change
changes_at all u = slice_index_or all u []

-- The spans of all switches from a use case.
abbrev pub spans_in : GroupsData → List (List Change) → ℕ → List (ℕ × ℕ)
spans_in groups all u = map (λ v. span_in groups u v (changes_at all u) (changes_at all v))
    (range_with_len 0 (length groups.uses))

-- The most writes of a connection.
abbrev pub most_writes : ℕ
most_writes = 2 * (max_slots + 1)

-- Changes are few, and so are the writes of each.
pub record AreFew (changes : List Change) : Type 0 where
  pub count : length changes ≤ max_connections
  pub each : All (λ change. change.writes ≤ most_writes) changes
