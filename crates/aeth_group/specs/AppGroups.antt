-- What holds of the groups of an application: they are its use cases that chains of smooth pairs
-- join, numbered in the order of their least use cases.
--
--   AreJoined      two use cases have one group exactly where a chain joins them
--   HasLesser      a group has a use case before another
--   IsGroupsOf      what holds of the groups of an application
-- This project's own.
use Rattle.std.proofs.Common.{◌≡◌, ◌<◌, ◌↔◌, ℕ, List, length}
use Rattle.aeth_app.specs.App.{AppData, UseData, has_connection}
use Rattle.aeth_group.specs.{Chains.SameGroup, Members.GroupsData, Members.group_at, Members.has_at}

-- Two use cases have one group exactly where a chain of smooth pairs joins them.
abbrev pub AreJoined : List UseData → GroupsData → Type 0
AreJoined uses groups = (u v : ℕ) → u < length uses → v < length uses
    → (group_at groups u ≡ group_at groups v) ↔ SameGroup uses u v

-- A use case of the same group as one stands before another.
pub record HasLesser (uses : List UseData) (groups : GroupsData) (u v : ℕ) : Type 0 where
  pub use_case : ℕ
  pub within : use_case < length uses
  pub same : group_at groups use_case ≡ group_at groups u
  pub before : use_case < v

-- What holds of the groups of an application: a group for each use case, and its connections; use
-- cases have one group exactly where a chain joins them; and a group with a lesser number has a use
-- case before all those of one with a greater.
pub record IsGroupsOf (app : AppData) (groups : GroupsData) : Type 0 where
  pub connections : groups.connections ≡ length app.connections
  pub uses : length groups.uses ≡ length app.uses
  pub below : (u : ℕ) → u < length app.uses → group_at groups u < groups.count
  pub joined : AreJoined app.uses groups
  pub ordered : (u v : ℕ) → u < length app.uses → v < length app.uses
      → group_at groups u < group_at groups v → HasLesser app.uses groups u v
  pub has : (u c : ℕ) → u < length app.uses → c < length app.connections
      → has_at groups u c ≡ has_connection app.uses u c
