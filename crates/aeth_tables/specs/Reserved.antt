-- What holds of the connections of a use case by an accepted plan: where their cores sit, and what
-- they are granted.
--
--   IsSeated, IsServed, IsReserved      the seats and grants of a connection
--   IsPlanned      these are the plan's
-- Connections with a channel each way: after Æthereal (2005). Seats: this project's own.
use Rattle.std.proofs.Common.{◌≡◌, ◌<◌, ◌+◌, ◌-◌, ℕ, All, Some, Contains, length, slice_get}
use Rattle.aeth_base.specs.declared.ids.{CoreId.CoreId, NiId.NiId, Side.Side}
use Rattle.aeth_slots.specs.{Choice.IsSuitable, SlotSet.Ascends}
use Rattle.aeth_chip.specs.{Chip.ChipData, Paths.IsAdmissible, Paths.path_delay}
use Rattle.aeth_app.specs.{App.AppData, App.wish_of, Limits.seats_per_ni, Rates.need_of}
use Rattle.aeth_app.specs.{declared.connection.Connection.Connection, Connections.receiver}
use Rattle.aeth_app.specs.{Connections.sender}
use Rattle.aeth_group.specs.declared.grant.{Grant.Grant, SeatLine.SeatLine}
use Rattle.aeth_plan.specs.Plan.{PlanData}
use Rattle.aeth_tables.specs.Granted.{grant_on, receiving_seat, sending_seat, unit_in}
use Rattle.aeth_tables.specs.declared.granted.GrantedConnection.{GrantedConnection}

-- A line seats this core on a seat of the chip.
pub record IsSeated (chip : ChipData) (core : CoreId) (line : SeatLine) : Type 0 where
  pub core_is : line.core ≡ core
  pub ni : line.ni.0 < length chip.nis
  pub seat : line.seat < seats_per_ni

-- A grant serves a side of a connection between two interfaces: its path leads from the one to the
-- other, and its slots are enough for what the channel needs, none too far from the next.
pub record IsServed (chip : ChipData) (app : AppData) (connection : Connection) (side : Side)
    (from to : NiId) (grant : Grant) : Type 0 where
  pub links : All (λ link. link.0 < length chip.links) grant.path
  pub size : grant.slots.size ≡ chip.slots
  pub starts : Ascends 0 chip.slots grant.slots.slots
  pub admissible : IsAdmissible chip.links app.detour from to grant.path
  pub suitable : IsSuitable (need_of app.slots connection side)
      ((wish_of connection side).latency + 1 - path_delay chip.links grant.path) grant.slots

-- What holds of a connection with its seats and grants.
pub record IsReserved (chip : ChipData) (app : AppData) (granted : GrantedConnection) : Type 0 where
  pub connection_is : slice_get app.connections granted.conn.0 ≡ Some granted.connection
  pub sends : (side : Side) → IsSeated chip (sender granted.connection side)
      (sending_seat granted side)
  pub receives : (side : Side) → IsSeated chip (receiver granted.connection side)
      (receiving_seat granted side)
  pub serves : (side : Side) → IsServed chip app granted.connection side
      (sending_seat granted side).ni (receiving_seat granted side).ni (grant_on granted side)

-- The seats and grants of a connection are those of a plan, in a group.
pub record IsPlanned (plan : PlanData) (group : ℕ) (granted : GrantedConnection) : Type 0 where
  pub seated : (side : Side) → Contains plan.seats (sending_seat granted side)
  pub planned : (side : Side) → Contains plan.grants (grant_on granted side)
  pub unit_is : (side : Side) → (grant_on granted side).unit ≡ unit_in group granted.conn.0
  pub side_is : (side : Side) → (grant_on granted side).side ≡ side
