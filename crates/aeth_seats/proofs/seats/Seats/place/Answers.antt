use Rattle.std.proofs.Common.{◌≡◌, ◌<◌, None, length, subst, sym}
use Rattle.aeth_seats.specs.{Places.seat_of, Seats.IsSeats, Seats.SeatsData, Table.TableData}
use Rattle.aeth_seats.proofs.SeatLemmas.{seats-with_core}
use Rattle.aeth_seats.proofs.seats.Seats.place.Goals as goal

-- The core takes a seat that is free.
pub invariant_of-self : goal.invariant_of-self
invariant_of-self c =
    let seats : SeatsData = record {
      nis = c.self.inside.table.nis;
      fixed = c.self.inside.fixed.items;
      places = c.self.inside.table.places;
    } in
    let core = c.args.core.0 in
    let is = sym c.self.view_is in
    subst (λ (t : TableData). IsSeats (record {
      nis = t.nis;
      fixed = seats.fixed;
      places = t.places;
    })) (sym c.place.ensures)
    (seats-with_core seats core c.args.ni c.self.invariant
    (subst (λ (s : SeatsData). core < length s.places) is c.requires.core)
    (subst (λ (s : SeatsData). seat_of s.places core ≡ None) is c.requires.unseated)
    (subst (λ (s : SeatsData). c.args.ni.0 < s.nis) is c.requires.ni))
