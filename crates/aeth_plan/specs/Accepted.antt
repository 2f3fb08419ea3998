-- When a plan is accepted: seven facts about a finished plan, a chip, an application and its
-- groups, without the search and the book that may have made the plan.
--
--   NoTwo      no two items of a list are so related
--   HasGrant      a unit has a grant for a side
--   IsOnPath      a grant's path leads from the sender's seat to the receiver's
--   gap_for, HasSlots      a grant's slots suffice for what the channel needs and wishes
--   IsAccepted      the plan is accepted
-- Connections: after Æthereal (2005). The rest: this project's own.
use Rattle.std.proofs.Common.{◌≡◌, ◌<◌, ◌+◌, ◌-◌, ℕ, List, Some, slice_get, Contains, IsTrue}
use Rattle.aeth_base.specs.declared.ids.{CoreId.CoreId, NiId.NiId, Side.Side}
use Rattle.aeth_base.specs.declared.ids.{Unit.Unit as GroupUnit}
use Rattle.aeth_slots.specs.Choice.{IsSuitable}
use Rattle.aeth_chip.specs.{Chip.ChipData, Paths.IsAdmissible, Paths.path_delay}
use Rattle.aeth_app.specs.{App.AppData, App.wish_of, Connections.receiver, Connections.sender}
use Rattle.aeth_app.specs.{Rates.need_of, declared.connection.Connection.Connection}
use Rattle.aeth_app.specs.{declared.connection.Core.Core}
use Rattle.aeth_group.specs.Conflict.{Conflict}
use Rattle.aeth_group.specs.Members.{GroupsData, is_member, units_of}
use Rattle.aeth_group.specs.declared.grant.{Grant.Grant, SeatLine.SeatLine}
use Rattle.aeth_plan.specs.{Plan.PlanData, Seated.IsOneSeat, Seated.ni_of}

-- No two items of a list, one behind the other, are so related.
abbrev pub NoTwo : {X : Type 0} → (X → X → Type 0) → List X → Type 0
NoTwo {X} Related xs = (i j : ℕ) (a b : X) → i < j → slice_get xs i ≡ Some a
    → slice_get xs j ≡ Some b → Related a b → ⊥

-- A grant of the plan is for this side of the unit.
pub record HasGrant (plan : PlanData) (unit : GroupUnit) (side : Side) : Type 0 where
  pub grant : Grant
  pub granted : Contains plan.grants grant
  pub unit_is : grant.unit ≡ unit
  pub side_is : grant.side ≡ side

-- The grant's path is admissible from the interface of its sender's seat to that of its receiver's,
-- and both are seated.
pub record IsOnPath (chip : ChipData) (app : AppData) (seats : List SeatLine) (grant : Grant)
    : Type 0 where
  pub connection : Connection
  pub is : slice_get app.connections grant.unit.conn.0 ≡ Some connection
  pub from : NiId
  pub to : NiId
  pub sends : ni_of seats (sender connection grant.side) ≡ Some from
  pub receives : ni_of seats (receiver connection grant.side) ≡ Some to
  pub admissible : IsAdmissible chip.links app.detour from to grant.path

-- The gap that a channel's slots may have: the latency that it wishes and 1, without the delay of
-- its path. Where the path alone takes longer it is 0, and no slots have so small a gap.
abbrev pub gap_for : ChipData → Connection → Grant → ℕ
gap_for chip connection grant =
    (wish_of connection grant.side).latency + 1 - path_delay chip.links grant.path

-- The grant's slots are as many as the channel needs, and none is too far from the next.
pub record HasSlots (chip : ChipData) (app : AppData) (grant : Grant) : Type 0 where
  pub connection : Connection
  pub is : slice_get app.connections grant.unit.conn.0 ≡ Some connection
  pub suitable : IsSuitable (need_of app.slots connection grant.side)
      (gap_for chip connection grant) grant.slots

-- The plan is accepted.
pub record IsAccepted (chip : ChipData) (app : AppData) (groups : GroupsData) (plan : PlanData)
    : Type 0 where
  -- No two cores have one seat.
  pub apart : NoTwo IsOneSeat plan.seats
  -- Each core that is fixed to an interface is seated there.
  pub fixed : (core : CoreId) (one : Core) (ni : NiId) → slice_get app.cores core.0 ≡ Some one
      → one.fixed ≡ Some ni → ni_of plan.seats core ≡ Some ni
  -- The connection of each grant is in some use case of the grant's group.
  pub member : (grant : Grant) → Contains plan.grants grant
      → IsTrue (is_member groups grant.unit.group.0 grant.unit.conn.0)
  -- Each unit has a grant for each side.
  pub whole : (unit : GroupUnit) (side : Side) → Contains (units_of groups) unit
      → HasGrant plan unit side
  -- The path of each grant is admissible from the sender's interface to the receiver's.
  pub paths : (grant : Grant) → Contains plan.grants grant → IsOnPath chip app plan.seats grant
  -- The slots of each grant are suitable.
  pub slots : (grant : Grant) → Contains plan.grants grant → HasSlots chip app grant
  -- No two grants conflict.
  pub clear : NoTwo (Conflict groups chip.links) plan.grants
