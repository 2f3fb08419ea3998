-- What a channel's try comes to: a candidate that is granted, or there is none.
use Rattle.std.proofs.Common.{◌≡◌, Option, Some, None, slice_get, refl, sym, ap, ◌∙◌, option_map}
use Rattle.std.proofs.lemmas.Option.{none-some, same_Some}
use Rattle.aeth_base.specs.declared.ids.{Side.Side, Unit.Unit as GroupUnit}
use Rattle.aeth_chip.specs.Chip.{IsChip}
use Rattle.aeth_app.specs.declared.connection.Connection.{Connection}
use Rattle.aeth_app.specs.Connections.{receiver, sender}
use Rattle.aeth_book.specs.Book.{IsBook}
use Rattle.aeth_seats.specs.Seats.{candidates_of, crowded_of}
use Rattle.aeth_paths.specs.declared.request.Found.{Found}
use Rattle.aeth_alloc.specs.{Channels.Design, Channels.Reserved, Channels.first_for}
use Rattle.aeth_alloc.specs.{Channels.request_of, Channels.tried, Channels.tried_by}
use Rattle.aeth_alloc.specs.{Channels.with_found, Holds.IsCandidateFor, Refusals.HasNoCandidate}
use Rattle.aeth_alloc.proofs.FirstCandidateLemmas.{first_candidate-is, first_candidate-no}

-- A channel's try was granted: what is reserved then is what a candidate leaves.
pub record IsTried (design : Design) (reserved : Reserved) (unit : GroupUnit) (side : Side)
    (new : Reserved) : Type 0 where
  pub connection : Connection
  pub is : slice_get design.app.connections unit.conn.0 ≡ Some connection
  pub found : Found
  pub candidate : IsCandidateFor design reserved connection unit side found
  pub new_is : with_found reserved connection unit side found ≡ new

module _ (design : Design) (reserved : Reserved) (chip : IsChip design.chip)
    (book : IsBook reserved.book) (links : reserved.book.links ≡ design.chip.links)
    (unit : GroupUnit) (side : Side) where
  by-found : (new : Reserved) (connection : Connection) (found : Option Found)
      → slice_get design.app.connections unit.conn.0 ≡ Some connection
      → first_for design reserved connection unit side ≡ found
      → option_map (with_found reserved connection unit side) found ≡ Some new
      → IsTried design reserved unit side new
  by-found new connection None is first granted = absurd (none-some new granted)
  by-found new connection (Some found) is first granted = record {
    connection = connection;
    is = is;
    found = found;
    candidate = first_candidate-is design.chip reserved.book
        (request_of design.app connection unit side)
        (candidates_of reserved.seats (sender connection side).0)
        (candidates_of reserved.seats (receiver connection side).0)
        (crowded_of reserved.seats (sender connection side).0 (receiver connection side).0)
        chip book links design.prices found first;
    new_is = same_Some _ _ granted;
  }

  by-connection : (new : Reserved) (connection : Option Connection)
      → slice_get design.app.connections unit.conn.0 ≡ connection
      → tried_by design reserved unit side connection ≡ Some new
      → IsTried design reserved unit side new
  by-connection new None is granted = absurd (none-some new granted)
  by-connection new (Some connection) is granted =
      by-found new connection (first_for design reserved connection unit side) is refl granted

  -- A try that was granted.
  pub tried-some : (new : Reserved) → tried design reserved unit side ≡ Some new
      → IsTried design reserved unit side new
  unfolding tried
  tried-some new granted =
      by-connection new (slice_get design.app.connections unit.conn.0) refl granted

  no-found : (connection : Connection) (found : Option Found)
      → option_map (with_found reserved connection unit side) found ≡ None → found ≡ None
  no-found connection None none = refl
  no-found connection (Some found) none = absurd (none-some _ (sym none))

  -- Where a try wasn't granted, the channel had no candidate.
  pub tried-none : (connection : Connection)
      → slice_get design.app.connections unit.conn.0 ≡ Some connection
      → tried design reserved unit side ≡ None
      → HasNoCandidate design reserved connection unit side
  unfolding tried
  tried-none connection is none =
      first_candidate-no design.chip reserved.book (request_of design.app connection unit side)
      (candidates_of reserved.seats (sender connection side).0)
      (candidates_of reserved.seats (receiver connection side).0)
      (crowded_of reserved.seats (sender connection side).0 (receiver connection side).0)
      chip book links design.prices
      (no-found connection (first_for design reserved connection unit side)
      (sym (ap (tried_by design reserved unit side) is) ∙ none))
