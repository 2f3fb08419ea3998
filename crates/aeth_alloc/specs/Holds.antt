-- What holds of what was reserved and of the state between turns, in an allocation of a design.
-- This project's own.
--
--   IsDesign      what holds of every design
--   IsReservedOf, IsStateOf      it is of the design's chip and application
--   IsCandidateFor      a candidate for a channel
--   unseated_of, MayGiveBack, given_back      seats that are given back
--   IsWithoutLast      the last grant is taken back
use Rattle.std.proofs.Common.{◌≡◌, ◌<◌, IsSome, List, Option, None, Some, Contains, length}
use Rattle.std.proofs.Common.{if◌then◌else◌, is_none, slice_get}
use Rattle.aeth_base.specs.declared.ids.{CoreId.CoreId, Side.Side, Unit.Unit as GroupUnit}
use Rattle.aeth_chip.specs.{Chip.IsChip, declared.node.Link.Link}
use Rattle.aeth_app.specs.{App.IsApp, App.IsAppOf, declared.connection.Connection.Connection}
use Rattle.aeth_app.specs.{Connections.receiver, Connections.sender}
use Rattle.aeth_group.specs.declared.grant.Grant.{Grant}
use Rattle.aeth_book.specs.Book.{BookData, with_grant}
use Rattle.aeth_order.specs.declared.keys.UnitKeys.{UnitKeys}
use Rattle.aeth_seats.specs.{First.fixed_of, Places.seat_of, Seats.SeatsData, Seats.candidates_of}
use Rattle.aeth_seats.specs.{Seats.crowded_of, Seats.without_core}
use Rattle.aeth_paths.specs.{Candidates.IsCandidate, declared.request.Found.Found}
use Rattle.aeth_alloc.specs.{Channels.Design, Channels.Reserved, Channels.request_of, Turns.State}

-- What holds of every design: the application is one of the chip, and the least distances are those
-- of its links.
pub record IsDesign (design : Design) (links : List Link) : Type 0 where
  pub chip : IsChip design.chip
  pub app : IsApp design.app
  pub of : IsAppOf design.chip design.app
  pub far : links ≡ design.chip.links

-- The book is one of the chip, and the seats are those of the application's cores on the chip.
pub record IsReservedOf (design : Design) (reserved : Reserved) : Type 0 where
  pub links : reserved.book.links ≡ design.chip.links
  pub size : reserved.book.size ≡ design.chip.slots
  pub nis : reserved.seats.nis ≡ length design.chip.nis
  pub fixed : reserved.seats.fixed ≡ fixed_of design.app
  pub cores : length reserved.seats.places ≡ length design.app.cores

-- The same of a state, whose units are of connections of the application.
pub record IsStateOf (design : Design) (state : State) : Type 0 where
  pub reserved : IsReservedOf design state.reserved
  pub units : (keys : UnitKeys) → Contains state.units.waiting keys
      → keys.unit.conn.0 < length design.app.connections

-- What was found is a candidate for a channel of a connection.
abbrev pub IsCandidateFor : Design → Reserved → Connection → GroupUnit → Side → Found → Type 0
IsCandidateFor design reserved connection unit side found =
    IsCandidate reserved.book (request_of design.app connection unit side)
    (candidates_of reserved.seats (sender connection side).0)
    (candidates_of reserved.seats (receiver connection side).0)
    (crowded_of reserved.seats (sender connection side).0 (receiver connection side).0) found

-- A core, where it has no seat.
abbrev pub unseated_of : SeatsData → CoreId → Option CoreId
unseated_of seats core = if is_none (seat_of seats.places core.0) then Some core else None

-- A core may give its seat back: it has one, and isn't fixed.
pub record MayGiveBack (seats : SeatsData) (core : CoreId) : Type 0 where
  pub seated : IsSome (seat_of seats.places core.0)
  pub free : slice_get seats.fixed core.0 ≡ Some None

-- The seats once a core, if any, has given its seat back.
abbrev pub given_back : SeatsData → Option CoreId → SeatsData
given_back seats None = seats
given_back seats (Some core) = without_core seats core.0

-- The new book is the old one without its last grant, which it had.
abbrev pub IsWithoutLast : BookData → BookData → Type 0
IsWithoutLast old new = (grant : Grant) × (old ≡ with_grant new grant)
