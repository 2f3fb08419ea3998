-- A channel's try, step by step: what is found is granted, and then the cores sit.
use Rattle.std.proofs.Common.{◌≡◌, ◌≢◌, ◌∙◌, ◌<◌, ℕ, true, Option, None, Some, length, slice_get}
use Rattle.std.proofs.Common.{sym, ap, subst, IfSome, option_map}
use Rattle.aeth_base.specs.declared.ids.{CoreId.CoreId, NiId.NiId, Side.Side, Side.TheVariants.Back}
use Rattle.aeth_base.specs.declared.ids.{Side.TheVariants.Fwd, Unit.Unit as GroupUnit}
use Rattle.aeth_app.specs.{App.IsConnection, declared.connection.Connection.Connection}
use Rattle.aeth_app.specs.{Connections.receiver, Connections.sender}
use Rattle.aeth_book.specs.Book.{BookData, with_grant}
use Rattle.aeth_seats.specs.Places.{has_free, seat_of}
use Rattle.aeth_seats.specs.Seats.{SeatsData, candidates_of, crowded_of}
use Rattle.aeth_paths.specs.{Candidates.IsAllowed, declared.request.Found.Found}
use Rattle.aeth_alloc.specs.Channels.{Design, Reserved, first_for, grant_of, tried, tried_by}
use Rattle.aeth_alloc.specs.Channels.{with_found, with_seat}
use Rattle.aeth_alloc.specs.Holds.{IsCandidateFor, IsReservedOf}
use Rattle.aeth_alloc.proofs.PlaceLemmas.{candidate-place, receiver-place}
use Rattle.aeth_alloc.proofs.TurnLemmas.{alike-seat}

-- What was found for what is reserved is a candidate.
pub found-candidate : (design : Design) (before reserved : Reserved) (connection : Connection)
    (unit : GroupUnit) (side : Side) (found : Found) (first : Option Found) → before ≡ reserved
    → first ≡ Some found → IfSome first (IsCandidateFor design reserved connection unit side)
    → IsCandidateFor design before connection unit side found
found-candidate design before reserved connection unit side found first view is candidate =
    rw view (rw is at candidate)

-- A try of a connection that is there, by what is found first.
pub tried-of : (inside design : Design) (reserved : Reserved) (unit : GroupUnit) (side : Side)
    (connection : Connection) (found : Option Found) → inside ≡ design
    → slice_get inside.app.connections unit.conn.0 ≡ Some connection
    → found ≡ first_for design reserved connection unit side
    → tried design reserved unit side ≡ option_map (with_found reserved connection unit side) found
unfolding tried
tried-of inside design reserved unit side connection found view is first =
    ap (λ (d : Design). tried_by design reserved unit side
    (slice_get d.app.connections unit.conn.0)) (sym view)
    ∙ ap (tried_by design reserved unit side) is
    ∙ ap (option_map (with_found reserved connection unit side)) (sym first)

-- What is reserved once a core sits on an interface.
abbrev pub seated : Reserved → CoreId → NiId → Reserved
seated reserved core ni =
    record { book = reserved.book; seats = with_seat reserved.seats core.0 ni }

-- The steps of a grant come to what a grant leaves.
pub granted-steps : (before reserved : Reserved) (connection : Connection) (unit : GroupUnit)
    (side : Side) (found : Found) (a b : CoreId) (book : BookData) (one two : Reserved)
    → before ≡ reserved → a ≡ sender connection side → b ≡ receiver connection side
    → book ≡ with_grant before.book (grant_of unit side found)
    → one ≡ seated (record { book = book; seats = before.seats }) a found.from
    → two ≡ seated one b found.to → with_found reserved connection unit side found ≡ two
granted-steps before reserved connection unit side found a b book one two view sends receives
    granted first second =
    sym (second ∙ ap (λ (r : Reserved). seated r b found.to) first
    ∙ ap (λ (core : CoreId). seated (seated (record { book = book; seats = before.seats }) a
    found.from) core found.to) receives
    ∙ ap (λ (core : CoreId). seated (seated (record { book = book; seats = before.seats }) core
    found.from) (receiver connection side) found.to) sends
    ∙ ap (λ (book : BookData). seated (seated (record { book = book; seats = before.seats })
    (sender connection side) found.from) (receiver connection side) found.to) granted
    ∙ ap (λ (r : Reserved). with_found r connection unit side found) view)

-- The two cores of a channel are two of the application's.
pub record AreEnds (cores : ℕ) (a b : CoreId) : Type 0 where
  pub sends : a.0 < cores
  pub receives : b.0 < cores
  pub apart : b.0 ≢ a.0

pub ends-of : (cores : ℕ) (connection : Connection) (side : Side) → IsConnection cores connection
    → AreEnds cores (sender connection side) (receiver connection side)
ends-of cores connection Fwd is = record {
  sends = is.from;
  receives = is.to;
  apart = λ same. is.apart (sym same);
}
ends-of cores connection Back is = record {
  sends = is.to;
  receives = is.from;
  apart = is.apart;
}

-- The cores of a channel may sit at the ends of a path: first the sender, then the receiver.
pub record MaySit (seats : SeatsData) (a b : CoreId) (from to : NiId) : Type 0 where
  pub sender : seat_of seats.places a.0 ≡ None
      → (from.0 < seats.nis) × (has_free seats.places from.0 ≡ true)
  pub receiver : (new : SeatsData) → new ≡ with_seat seats a.0 from
      → seat_of new.places b.0 ≡ None → (to.0 < new.nis) × (has_free new.places to.0 ≡ true)

may-by : (seats : SeatsData) (a b : CoreId) (from to : NiId) → AreEnds (length seats.places) a b
    → IsAllowed (candidates_of seats a.0) (candidates_of seats b.0) (crowded_of seats a.0 b.0) from to
    → MaySit seats a b from to
may-by seats a b from to ends allowed = record {
  sender = candidate-place seats a.0 from allowed.sender;
  receiver = λ new is. rw is (λ none.
      let place = receiver-place seats a.0 b.0 from to ends.apart ends.sends allowed none in
      (subst (λ n. to.0 < n) (sym (alike-seat seats a.0 from).nis) place.0, place.1));
}

-- So they may at the ends of a candidate.
pub may-sit : (design : Design) (reserved : Reserved) (connection : Connection) (unit : GroupUnit)
    (side : Side) (found : Found) (a b : CoreId) → IsReservedOf design reserved
    → IsConnection (length design.app.cores) connection
    → IsCandidateFor design reserved connection unit side found → a ≡ sender connection side
    → b ≡ receiver connection side → MaySit reserved.seats a b found.from found.to
may-sit design reserved connection unit side found a b of joined candidate sends receives =
    rw (sends, receives) (may-by reserved.seats (sender connection side) (receiver connection side)
    found.from found.to
    (subst (λ n. AreEnds n (sender connection side) (receiver connection side)) (sym of.cores)
    (ends-of (length design.app.cores) connection side joined)) candidate.allowed)
