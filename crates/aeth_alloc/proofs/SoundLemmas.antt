-- What holds of all that is reserved: a book of the chip, seats, and grants that keep a plan's rules.
-- It holds before the first turn, and where a channel is granted.
use Rattle.std.proofs.Common.{◌≡◌, ◌≢◌, ◌<◌, ◌+◌, ◌-◌, ℕ, List, Contains, Some, length, get_or}
use Rattle.std.proofs.Common.{slice_get, sym, subst, inl, inr, AllPairs}
use Rattle.std.proofs.lemmas.List.Elements.{Contains-get_or, Contains-push_cases}
use Rattle.std.proofs.lemmas.List.Quantifiers.{all_pairs_push}
use Rattle.aeth_base.proofs.Members.{map-Contains}
use Rattle.aeth_base.specs.declared.ids.{NiId.NiId, Side.Side, Unit.Unit as GroupUnit}
use Rattle.aeth_slots.specs.{Choice.IsSuitable, Choice.sublists, SlotSet.Ascends, SlotSet.Slots}
use Rattle.aeth_slots.proofs.{Sublists.sublist-ascends, TestLemmas.Ascends-where}
use Rattle.aeth_slots.proofs.{ChoiceLemmas.chosen-some}
use Rattle.aeth_chip.specs.{Paths.IsAdmissible, Paths.path_delay, declared.node.Link.Link}
use Rattle.aeth_app.specs.{App.IsApp, App.IsConnection, App.wish_of, Rates.need_of}
use Rattle.aeth_app.specs.{declared.connection.Connection.Connection, Connections.receiver}
use Rattle.aeth_app.specs.{Connections.sender}
use Rattle.aeth_group.specs.{Members.GroupsData, Members.units_of, declared.grant.Grant.Grant}
use Rattle.aeth_group.proofs.ListLemmas.{all_at}
use Rattle.aeth_book.specs.{Book.IsBook, Free.free_starts, Free.is_open}
use Rattle.aeth_seats.specs.Seats.{IsSeats, SeatsData, candidates_of, crowded_of}
use Rattle.aeth_plan.specs.{Making.AreApart, Accepted.gap_for}
use Rattle.aeth_paths.specs.declared.request.{Found.Found, Request.Request}
use Rattle.aeth_alloc.specs.Channels.{Design, Reserved, grant_of, request_of, with_found}
use Rattle.aeth_alloc.specs.Holds.{IsCandidateFor, IsReservedOf}
use Rattle.aeth_alloc.proofs.{GrantLemmas.candidate-free, GrantLemmas.candidate-links}
use Rattle.aeth_alloc.proofs.{GrantLemmas.candidate-size, SeatLineLemmas.SitsOn}
use Rattle.aeth_alloc.proofs.{SeatedLemmas.AreKept, SeatedLemmas.AreSeated}
use Rattle.aeth_alloc.proofs.{SeatedLemmas.both-seated, StepLemmas.ends-of}
use Rattle.aeth_alloc.proofs.{TurnLemmas.reserved-found, WithGrantLemmas.book-with_grant}

-- A grant keeps a plan's rules: it is of a unit, its path is admissible between the interfaces where
-- the connection's cores sit, and its slots are suitable.
pub record IsGranted (design : Design) (groups : GroupsData) (seats : SeatsData) (grant : Grant)
    : Type 0 where
  pub unit : Contains (units_of groups) grant.unit
  pub connection : Connection
  pub is : slice_get design.app.connections grant.unit.conn.0 ≡ Some connection
  pub from : NiId
  pub to : NiId
  pub sends : SitsOn seats.places (sender connection grant.side).0 from
  pub receives : SitsOn seats.places (receiver connection grant.side).0 to
  pub admissible : IsAdmissible design.chip.links design.app.detour from to grant.path
  pub suitable : IsSuitable (need_of design.app.slots connection grant.side)
      (gap_for design.chip connection grant) grant.slots
  pub starts : Ascends 0 design.chip.slots grant.slots.slots

-- What holds of all that is reserved.
pub record IsSound (design : Design) (groups : GroupsData) (reserved : Reserved) : Type 0 where
  pub of : IsReservedOf design reserved
  pub groups_are : reserved.book.groups ≡ groups
  pub book : IsBook reserved.book
  pub seats : IsSeats reserved.seats
  pub granted : (grant : Grant) → Contains reserved.book.grants grant
      → IsGranted design groups reserved.seats grant
  pub apart : AllPairs AreApart reserved.book.grants

-- A grant keeps the rules where more cores sit.
granted-kept : (design : Design) (groups : GroupsData) (seats new : SeatsData) (grant : Grant)
    → AreKept seats.places new.places → IsGranted design groups seats grant
    → IsGranted design groups new grant
granted-kept design groups seats new grant kept is = record {
  unit = is.unit;
  connection = is.connection;
  is = is.is;
  from = is.from;
  to = is.to;
  sends = kept (sender is.connection grant.side).0 is.from is.sends;
  receives = kept (receiver is.connection grant.side).0 is.to is.receives;
  admissible = is.admissible;
  suitable = is.suitable;
  starts = is.starts;
}

module _ (design : Design) (groups : GroupsData) (app : IsApp design.app) (reserved : Reserved)
    (sound : IsSound design groups reserved) (connection : Connection) (unit : GroupUnit)
    (side : Side) (found : Found)
    (is : slice_get design.app.connections unit.conn.0 ≡ Some connection)
    (candidate : IsCandidateFor design reserved connection unit side found) where
  abbrev ask : Request
  ask = request_of design.app connection unit side

  -- The cores sit at the ends of the path.
  seated : AreSeated reserved.seats (with_found reserved connection unit side found).seats
      (sender connection side).0 (receiver connection side).0 found.from found.to
  seated =
      let cores = ends-of (length design.app.cores) connection side
      (all_at (IsConnection (length design.app.cores)) design.app.connections unit.conn.0 connection
      app.joined is) in
      let count = sound.of.cores in
      both-seated reserved.seats (sender connection side).0 (receiver connection side).0 found.from
      found.to sound.seats cores.apart
      (subst (λ n. (sender connection side).0 < n) (sym count) cores.sends)
      (subst (λ n. (receiver connection side).0 < n) (sym count) cores.receives)
      candidate.allowed

  -- The slots ascend, as free starts do.
  starts : Ascends 0 design.chip.slots found.slots.slots
  starts =
      let size : ℕ = reserved.book.size in
      let free : Slots = free_starts reserved.book unit found.path in
      let (slots, same, among) =
      map-Contains (λ slots. record { size = free.size; slots = slots }) (sublists free.slots)
      found.slots (chosen-some free (need_of design.app.slots connection side)
      ((wish_of connection side).latency + 1 - path_delay reserved.book.links found.path)
      found.slots candidate.slots).subset in
      subst (λ n. Ascends 0 n found.slots.slots) sound.of.size
      (subst (λ (s : Slots). Ascends 0 size s.slots) same
      (sublist-ascends 0 size free.slots slots
      (Ascends-where size (is_open reserved.book unit 0 found.path)) among))

  -- The slots are suitable.
  suits : IsSuitable (need_of design.app.slots connection side)
      (gap_for design.chip connection (grant_of unit side found)) found.slots
  suits =
      subst (λ (links : List Link). IsSuitable (need_of design.app.slots connection side)
      ((wish_of connection side).latency + 1 - path_delay links found.path) found.slots)
      sound.of.links
      (chosen-some (free_starts reserved.book unit found.path)
      (need_of design.app.slots connection side)
      ((wish_of connection side).latency + 1 - path_delay reserved.book.links found.path)
      found.slots candidate.slots).suitable

  -- The new grant keeps the rules.
  granted-new : Contains (units_of groups) unit
      → IsGranted design groups (with_found reserved connection unit side found).seats
      (grant_of unit side found)
  granted-new among = record {
    unit = among;
    connection = connection;
    is = is;
    from = found.from;
    to = found.to;
    sends = seated.sends;
    receives = seated.receives;
    admissible = subst (λ (links : List Link).
        IsAdmissible links design.app.detour found.from found.to found.path) sound.of.links
        candidate.path;
    suitable = suits;
    starts = starts;
  }

  -- All that is reserved is sound once a channel that has no grant is granted.
  pub sound-found : Contains (units_of groups) unit
      → ((grant : Grant) → Contains reserved.book.grants grant → grant.unit ≡ unit
      → grant.side ≢ side)
      → IsSound design groups (with_found reserved connection unit side found)
  sound-found among none =
      let grant : Grant = grant_of unit side found in
      let senders = candidates_of reserved.seats (sender connection side).0 in
      let receivers = candidates_of reserved.seats (receiver connection side).0 in
      let crowded = crowded_of reserved.seats (sender connection side).0
      (receiver connection side).0 in
      let new = (with_found reserved connection unit side found).seats in
      record {
        of = reserved-found design reserved connection unit side found sound.of;
        groups_are = sound.groups_are;
        book = book-with_grant reserved.book grant
            (candidate-size reserved.book ask senders receivers crowded found candidate)
            (candidate-free reserved.book ask senders receivers crowded found candidate) sound.book
            (candidate-links reserved.book ask senders receivers crowded found candidate);
        seats = seated.are;
        granted = λ other has.
            elim (Contains-push_cases reserved.book.grants grant other has) [
              | inl old ↦ granted-kept design groups reserved.seats new other seated.kept
                  (sound.granted other old)
              | inr same ↦ subst (IsGranted design groups new) same (granted-new among)
            ];
        apart = all_pairs_push AreApart reserved.book.grants grant sound.apart
            (λ k d low. none (get_or reserved.book.grants k d)
            (Contains-get_or reserved.book.grants k d low));
      }
