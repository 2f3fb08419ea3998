-- What the groups of an application are seen as, and what their readers tell.
--
--   UseGroupData, GroupsData      a use case's group and connections, and those of all use cases
--   use_group, groups_of      the groups of an application
--   IsGroups      what holds of all groups
--   group_in, group_at      the group of a use case
--   use_has, has_at      whether a use case has a connection
--   has_unit      whether a use case is of a unit's group and has its connection
--   is_member, are_together, is_kept      which connections are in a group, together, and kept
--   units_with, units_of      the units
-- This project's own.
use Rattle.std.proofs.Common.{ℕ, ◌≤◌, ◌<◌, ◌==◌, ◌&&◌, Bool, false, List, All, Option, Some, None}
use Rattle.std.proofs.Common.{length, map, filter, flat_map, slice_get}
use Rattle.std.specs.List.{list_any, range_with_len}
use Rattle.aeth_base.specs.declared.ids.Unit.{Unit as GroupUnit}
use Rattle.aeth_app.specs.App.{AppData, has_connection, is_marked}
use Rattle.aeth_app.specs.Limits.{max_connections, max_uses}
use Rattle.aeth_group.specs.Groups.{group_count, group_of}

-- A use case's group, and for each connection whether the use case has it.
pub record UseGroupData : Type 0 where
  pub group : ℕ
  pub has : List Bool

-- The groups of an application: the number of its connections, the number of groups, and for each
-- use case in file order its group and its connections.
pub record GroupsData : Type 0 where
  pub connections : ℕ
  pub count : ℕ
  pub uses : List UseGroupData

-- The group and the connections of a use case.
abbrev pub use_group : AppData → ℕ → UseGroupData
use_group app u = record {
  group = group_of app.uses u;
  has = map (has_connection app.uses u) (range_with_len 0 (length app.connections));
}

-- The groups of an application.
unfoldable pub groups_of : AppData → GroupsData
groups_of app = record {
  connections = length app.connections;
  count = group_count app.uses;
  uses = map (use_group app) (range_with_len 0 (length app.uses));
}

-- What holds of all groups.
pub record IsGroups (groups : GroupsData) : Type 0 where
  pub connections : groups.connections ≤ max_connections
  pub count : groups.count ≤ max_uses
  pub uses : length groups.uses ≤ max_uses
  pub below : All (λ one. one.group < groups.count) groups.uses

-- The group of a use case, which may be missing.
abbrev pub group_in : Option UseGroupData → ℕ
group_in (Some one) = one.group
group_in None = 0

-- The number of a use case's group; 0 where there is no such use case.
abbrev pub group_at : GroupsData → ℕ → ℕ
group_at groups u = group_in (slice_get groups.uses u)

-- Whether a use case, which may be missing, has a connection.
abbrev pub use_has : Option UseGroupData → ℕ → Bool
use_has (Some one) c = is_marked one.has c
use_has None c = false

-- Whether a use case has a connection.
abbrev pub has_at : GroupsData → ℕ → ℕ → Bool
has_at groups u c = use_has (slice_get groups.uses u) c

-- Whether a use case is of a unit's group and has its connection.
abbrev pub has_unit : GroupsData → GroupUnit → ℕ → Bool
has_unit groups unit u = has_at groups u unit.conn.0 && group_at groups u == unit.group.0

-- Whether some use case of a group has a connection.
abbrev pub is_member : GroupsData → ℕ → ℕ → Bool
is_member groups g c = list_any (λ one. one.group == g && is_marked one.has c) groups.uses

-- Whether one use case of a group has both connections.
abbrev pub are_together : GroupsData → ℕ → ℕ → ℕ → Bool
are_together groups g a b =
    list_any (λ one. one.group == g && is_marked one.has a && is_marked one.has b) groups.uses

-- Whether a switch between two use cases keeps a connection: both have it, and they are in one
-- group.
abbrev pub is_kept : GroupsData → ℕ → ℕ → ℕ → Bool
is_kept groups u v c =
    has_at groups u c && has_at groups v c && group_at groups u == group_at groups v

-- The units of a connection: it with each group that has it.
abbrev pub units_with : GroupsData → ℕ → List GroupUnit
units_with groups c =
    map (λ g. record { conn = record { 0 = c }; group = record { 0 = g } })
    (filter (λ g. is_member groups g c) (range_with_len 0 groups.count))

-- All units, in the order of connections and of groups: each connection with each group in which
-- some use case has it.
abbrev pub units_of : GroupsData → List GroupUnit
units_of groups = flat_map (units_with groups) (range_with_len 0 groups.connections)
