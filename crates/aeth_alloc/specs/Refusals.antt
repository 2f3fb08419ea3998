-- What a refusal and a plan of an allocation mean. This project's own.
--
--   HasNoCandidate      nothing is a candidate for a channel
--   IsBeforeTry, IsRefused      what is reserved when a side is tried; why a unit is refused
--   LacksCandidate      a channel has no candidate in its turn
--   RefusesExactly      exactly such channels have their units refused
--   IsAmong, LacksOnlyRefused      a plan breaks no rule of an accepted plan but the one on missing
--                                  sides, and that one for refused units alone
use Rattle.std.proofs.Common.{◌≡◌, ◌<◌, ◌+◌, ℕ, ◌↔◌, List, Some, Contains, length, slice_get}
use Rattle.std.proofs.Common.{IsTrue}
use Rattle.aeth_base.specs.declared.ids.{CoreId.CoreId, NiId.NiId, Side.Side, Side.TheVariants.Fwd}
use Rattle.aeth_base.specs.declared.ids.{Side.TheVariants.Back, Unit.Unit as GroupUnit}
use Rattle.aeth_chip.specs.Chip.{ChipData}
use Rattle.aeth_app.specs.App.{AppData}
use Rattle.aeth_app.specs.declared.connection.{Connection.Connection, Core.Core}
use Rattle.aeth_group.specs.{Conflict.Conflict, Members.GroupsData, Members.is_member}
use Rattle.aeth_group.specs.{Members.units_of, declared.grant.Grant.Grant}
use Rattle.aeth_order.specs.Units.{next_unit}
use Rattle.aeth_plan.specs.Accepted.{HasGrant, HasSlots, IsOnPath, NoTwo}
use Rattle.aeth_plan.specs.Seated.{IsOneSeat, ni_of}
use Rattle.aeth_paths.specs.declared.request.Found.{Found}
use Rattle.aeth_alloc.specs.{Channels.Design, Channels.Reserved, Channels.tried}
use Rattle.aeth_alloc.specs.{Holds.IsCandidateFor, Allocation.OutcomeData, Allocation.after_turns}
use Rattle.aeth_alloc.specs.{declared.outcome.Refused.Refused}

-- Nothing is a candidate for a channel of a connection.
abbrev pub HasNoCandidate : Design → Reserved → Connection → GroupUnit → Side → Type 0
HasNoCandidate design reserved connection unit side = (found : Found)
    → IsCandidateFor design reserved connection unit side found → ⊥

-- What is reserved when a side of a unit is tried: for `fwd` what was reserved before the turn, for
-- `back` that and the unit's `fwd` channel.
abbrev pub IsBeforeTry : Design → Reserved → GroupUnit → Side → Reserved → Type 0
IsBeforeTry design before unit Fwd reserved = reserved ≡ before
IsBeforeTry design before unit Back reserved = tried design before unit Fwd ≡ Some reserved

-- Why a unit is refused: it is the next unit of its turn, and when its side was tried the channel
-- had no candidate. After the turn all that is reserved is as before it.
pub record IsRefused (design : Design) (groups : GroupsData) (refused : Refused) : Type 0 where
  pub before : ℕ
  pub turn : refused.turn ≡ before + 1
  pub within : before < length (units_of groups)
  pub next : next_unit (after_turns design groups before).units
      (after_turns design groups before).reserved.seats.places ≡ Some refused.unit
  pub connection : Connection
  pub is : slice_get design.app.connections refused.unit.conn.0 ≡ Some connection
  pub reserved : Reserved
  pub tried : IsBeforeTry design (after_turns design groups before).reserved refused.unit
      refused.side reserved
  pub none : HasNoCandidate design reserved connection refused.unit refused.side
  pub kept : (after_turns design groups (before + 1)).reserved
      ≡ (after_turns design groups before).reserved

-- In the turn of a unit the channel of a side has no candidate when it is tried.
pub record LacksCandidate (design : Design) (groups : GroupsData) (refused : Refused) : Type 0 where
  pub before : ℕ
  pub turn : refused.turn ≡ before + 1
  pub within : before < length (units_of groups)
  pub next : next_unit (after_turns design groups before).units
      (after_turns design groups before).reserved.seats.places ≡ Some refused.unit
  pub connection : Connection
  pub is : slice_get design.app.connections refused.unit.conn.0 ≡ Some connection
  pub reserved : Reserved
  pub tried : IsBeforeTry design (after_turns design groups before).reserved refused.unit
      refused.side reserved
  pub none : HasNoCandidate design reserved connection refused.unit refused.side

-- A unit is refused, with a side and its turn, exactly where the channel of this side has no
-- candidate in this turn.
abbrev pub RefusesExactly : Design → GroupsData → List Refused → Type 0
RefusesExactly design groups refusals = (refused : Refused)
    → Contains refusals refused ↔ LacksCandidate design groups refused

-- A unit is among the refused.
pub record IsAmong (outcome : OutcomeData) (unit : GroupUnit) : Type 0 where
  pub refused : Refused
  pub listed : Contains outcome.refused refused
  pub unit_is : refused.unit ≡ unit

-- A plan breaks no rule of an accepted plan, but for the one on missing sides, and that one for
-- refused units alone. The rules are those of `IsAccepted`, in their order.
pub record LacksOnlyRefused (chip : ChipData) (app : AppData) (groups : GroupsData)
    (outcome : OutcomeData) : Type 0 where
  pub apart : NoTwo IsOneSeat outcome.plan.seats
  pub fixed : (core : CoreId) (one : Core) (ni : NiId) → slice_get app.cores core.0 ≡ Some one
      → one.fixed ≡ Some ni → ni_of outcome.plan.seats core ≡ Some ni
  pub member : (grant : Grant) → Contains outcome.plan.grants grant
      → IsTrue (is_member groups grant.unit.group.0 grant.unit.conn.0)
  pub whole : (unit : GroupUnit) (side : Side) → Contains (units_of groups) unit
      → (IsAmong outcome unit → ⊥) → HasGrant outcome.plan unit side
  pub paths : (grant : Grant) → Contains outcome.plan.grants grant
      → IsOnPath chip app outcome.plan.seats grant
  pub slots : (grant : Grant) → Contains outcome.plan.grants grant → HasSlots chip app grant
  pub clear : NoTwo (Conflict groups chip.links) outcome.plan.grants
