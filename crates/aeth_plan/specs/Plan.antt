-- What a plan is seen as, and what holds of every plan and of a plan for a chip and an application.
--
--   PlanData      a plan
--   seat_before, grant_before      the order of its lines
--   IsPlan      what holds of every plan
--   IsSeatOf, IsGrantOf, IsPlanOf      what holds of a plan for a chip, an application and groups
--   core_names, name_at      the names in a plan's text
-- This project's own.
use Rattle.std.proofs.Common.{◌≡◌, ◌≤◌, ◌<◌, ◌==◌, ℕ, Bool, true, false, nat_lt, List, [], length}
use Rattle.std.proofs.Common.{map, slice_get, unwrap_or, if◌then◌else◌}
use Rattle.std.specs.List.{AllByRecursion}
use Rattle.aeth_base.specs.declared.ids.Side.{Side, TheVariants.Fwd, TheVariants.Back}
use Rattle.aeth_base.specs.Limits.{max_path_links, min_path_links}
use Rattle.aeth_slots.specs.SlotSet.{Ascends}
use Rattle.aeth_text.specs.Order.{Rises}
use Rattle.aeth_chip.specs.Chip.{ChipData}
use Rattle.aeth_app.specs.{App.AppData, Limits.seats_per_ni}
use Rattle.aeth_group.specs.Members.{GroupsData}
use Rattle.aeth_group.specs.declared.grant.{Grant.Grant, SeatLine.SeatLine}
pub use Rattle.aeth_app.specs.Connections.{connection_names}

-- A plan: the size of the slot tables, where cores are seated, and what is granted.
pub record PlanData : Type 0 where
  pub slots : ℕ
  pub seats : List SeatLine
  pub grants : List Grant

-- `fwd` comes before `back`.
abbrev pub side_before : Side → Side → Bool
side_before Fwd Fwd = false
side_before Fwd Back = true
side_before Back other = false

-- Seats are in the order of their cores.
abbrev pub seat_before : SeatLine → SeatLine → Bool
seat_before a b = nat_lt a.core.0 b.core.0

-- Grants are in the order of connections, then of groups, then of sides.
abbrev pub grant_before : Grant → Grant → Bool
grant_before a b =
    if a.unit.conn.0 == b.unit.conn.0
    then (if a.unit.group.0 == b.unit.group.0 then side_before a.side b.side
    else nat_lt a.unit.group.0 b.unit.group.0)
    else nat_lt a.unit.conn.0 b.unit.conn.0

-- What holds of every plan: its lines are in order, no two for one core or for one side of a unit.
pub record IsPlan (plan : PlanData) : Type 0 where
  pub seats : Rises seat_before plan.seats
  pub grants : Rises grant_before plan.grants

-- What holds of a seat line for a chip and an application.
pub record IsSeatOf (chip : ChipData) (app : AppData) (line : SeatLine) : Type 0 where
  pub core : line.core.0 < length app.cores
  pub ni : line.ni.0 < length chip.nis
  pub seat : line.seat < seats_per_ni

-- What holds of a grant for a chip, an application and its groups: what it names is there, its path
-- has 2 to 8 links, and it has at least one start.
pub record IsGrantOf (chip : ChipData) (app : AppData) (groups : GroupsData) (grant : Grant)
    : Type 0 where
  pub conn : grant.unit.conn.0 < length app.connections
  pub group : grant.unit.group.0 < groups.count
  pub some_links : min_path_links ≤ length grant.path
  pub few_links : length grant.path ≤ max_path_links
  pub links : AllByRecursion (λ link. link.0 < length chip.links) grant.path
  pub size : grant.slots.size ≡ chip.slots
  pub some_starts : 1 ≤ length grant.slots.slots
  pub starts : Ascends 0 chip.slots grant.slots.slots

-- What holds of a plan for a chip, an application and its groups.
pub record IsPlanOf (chip : ChipData) (app : AppData) (groups : GroupsData) (plan : PlanData)
    : Type 0 where
  pub slots : plan.slots ≡ chip.slots
  pub seats : AllByRecursion (IsSeatOf chip app) plan.seats
  pub grants : AllByRecursion (IsGrantOf chip app groups) plan.grants
  pub in_order : IsPlan plan

-- The names of an application's cores.
unfoldable pub core_names : AppData → List (List ℕ)
core_names app = map (λ core. core.name) app.cores

-- The name at a place; no bytes where there is none.
abbrev pub name_at : List (List ℕ) → ℕ → List ℕ
name_at names place = unwrap_or (slice_get names place) []
