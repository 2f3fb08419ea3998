-- One channel's try: its first candidate, the seats of its cores, and its grant. Cores are placed as
-- the consequence of the path that is chosen for one of their channels: after UMARS (2005).
--
--   Design      what all turns read
--   Reserved      what was reserved: grants and seats
--   request_of      what a channel asks of a path
--   first_for      the first candidate for a channel
--   with_seat, with_found      a core takes a seat; a channel is granted what was found for it
--   tried      a channel's try
use Rattle.std.proofs.Common.{ℕ, List, Option, None, Some, option_map, slice_get}
use Rattle.aeth_base.specs.declared.ids.{NiId.NiId, Side.Side, Unit.Unit as GroupUnit}
use Rattle.aeth_chip.specs.Chip.{ChipData}
use Rattle.aeth_app.specs.{App.AppData, App.wish_of, Rates.need_of}
use Rattle.aeth_app.specs.{declared.connection.Connection.Connection, Connections.receiver}
use Rattle.aeth_app.specs.{Connections.sender}
use Rattle.aeth_group.specs.declared.grant.Grant.{Grant}
use Rattle.aeth_book.specs.Book.{BookData, with_grant}
use Rattle.aeth_seats.specs.Places.{Place, seat_of}
use Rattle.aeth_seats.specs.Seats.{SeatsData, candidates_of, crowded_of, with_core}
use Rattle.aeth_paths.specs.declared.request.{Found.Found, Request.Request}
use Rattle.aeth_alloc.specs.FirstCandidate.{first_candidate}

-- What all turns read: the chip, the application, and the table of what links cost.
pub record Design : Type 0 where
  pub chip : ChipData
  pub app : AppData
  pub prices : List ℕ

-- What was reserved: the book of grants, and the seats of the cores.
pub record Reserved : Type 0 where
  pub book : BookData
  pub seats : SeatsData

-- What a channel asks of a path: the slots that it needs, the latency that it wishes, and the detour
-- that the application allows.
abbrev pub request_of : AppData → Connection → GroupUnit → Side → Request
request_of app connection unit side = record {
  unit = unit;
  side = side;
  need = need_of app.slots connection side;
  latency = (wish_of connection side).latency;
  detour = app.detour;
}

-- The first candidate for a channel of a connection: a path from an interface where its sender sits
-- or may come to sit to one of its receiver.
abbrev pub first_for : Design → Reserved → Connection → GroupUnit → Side → Option Found
first_for design reserved connection unit side =
    first_candidate design.chip reserved.book design.prices
    (request_of design.app connection unit side)
    (candidates_of reserved.seats (sender connection side).0)
    (candidates_of reserved.seats (receiver connection side).0)
    (crowded_of reserved.seats (sender connection side).0 (receiver connection side).0)

-- The seats once a core, which may have a seat, sits on an interface: one that has a seat keeps it,
-- another takes the lowest free one.
abbrev pub with_seat_by : SeatsData → ℕ → NiId → Option Place → SeatsData
with_seat_by seats core ni (Some place) = seats
with_seat_by seats core ni None = with_core seats core ni

-- The same by the seats alone.
abbrev pub with_seat : SeatsData → ℕ → NiId → SeatsData
with_seat seats core ni = with_seat_by seats core ni (seat_of seats.places core)

-- The grant of a channel for what was found.
abbrev pub grant_of : GroupUnit → Side → Found → Grant
grant_of unit side found = record {
  unit = unit;
  side = side;
  path = found.path;
  slots = found.slots;
}

-- What is reserved once a channel is granted what was found for it: the cores sit where the path
-- begins and ends, the sender being placed first, and the grant stands behind the others.
abbrev pub with_found : Reserved → Connection → GroupUnit → Side → Found → Reserved
with_found reserved connection unit side found = record {
  book = with_grant reserved.book (grant_of unit side found);
  seats = with_seat (with_seat reserved.seats (sender connection side).0 found.from)
      (receiver connection side).0 found.to;
}

-- A channel's try, by the unit's connection, which may be missing: its first candidate is granted.
-- `None` where it has no candidate.
abbrev pub tried_by : Design → Reserved → GroupUnit → Side → Option Connection → Option Reserved
tried_by design reserved unit side None = None
tried_by design reserved unit side (Some connection) =
    option_map (with_found reserved connection unit side)
    (first_for design reserved connection unit side)

-- A channel's try.
unfoldable pub tried : Design → Reserved → GroupUnit → Side → Option Reserved
tried design reserved unit side =
    tried_by design reserved unit side (slice_get design.app.connections unit.conn.0)
