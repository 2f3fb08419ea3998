use Rattle.std.proofs.Common.{◌≡◌, ◌<◌, None, Some, true, length, set, sym, subst, arith}
use Rattle.aeth_seats.specs.{Places.seat_of, Table.IsTakenTable, Table.TableData}
use Rattle.aeth_seats.proofs.SeatLemmas.{lowest-free}
use Rattle.aeth_seats.proofs.TableLemmas.{entry_within, few-set, table-placed}
use Rattle.aeth_seats.proofs.table.Table.place.Goals as goal

-- The number of a seat is small.
pub overflow_cast-seat : goal.overflow_cast-seat
overflow_cast-seat c =
    let low = lowest-free c.args.self.now.places c.args.ni.0 c.in-Some.seat
    (sym c.in-Some.ensures) in
    omega (arith, low.0)

pub overflow_cast-seat-in-Some : goal.overflow_cast-seat-in-Some
overflow_cast-seat-in-Some c =
    let low = lowest-free c.args.self.now.places c.args.ni.0 c.in-Some.seat
    (sym c.in-Some.ensures) in
    omega (arith, low.0)

-- The entry is in the table.
pub index_mut-requires-in-Some : goal.index_mut-requires-in-Some
index_mut-requires-in-Some c =
    let on = subst (λ (t : TableData). c.args.ni.0 < t.nis) (sym c.self.view_is) c.requires.ni in
    let low = (lowest-free c.args.self.now.places c.args.ni.0 c.in-Some.seat
    (sym c.in-Some.ensures)).0 in
    let within = entry_within c.self.inside.nis c.args.ni.0 c.in-Some.seat
    (length c.self.inside.taken.items) on low c.self.invariant.1.size in
    omega (arith, within, c.entry_of.ensures)

-- The seat is taken then.
pub invariant_of-self : goal.invariant_of-self
invariant_of-self c =
    let table : TableData = record {
      nis = c.self.inside.nis;
      places = c.self.inside.places.items;
    } in
    let core = c.args.core.0 in
    let seat = c.in-Some.seat in
    let is = sym c.self.view_is in
    let there = subst (λ (t : TableData). core < length t.places) is c.requires.core in
    let none = subst (λ (t : TableData). seat_of t.places core ≡ None) is c.requires.unseated in
    let on = subst (λ (t : TableData). c.args.ni.0 < t.nis) is c.requires.ni in
    let low = (lowest-free c.args.self.now.places c.args.ni.0 seat (sym c.in-Some.ensures)).0 in (
      few-set table core (Some (c.args.ni, seat)) c.self.invariant.0,
      subst (λ e. IsTakenTable table.nis (set table.places core (Some (c.args.ni, seat)))
          (set c.self.inside.taken.items e true)) (sym c.entry_of.ensures)
          (table-placed table.nis table.places c.self.inside.taken.items core c.args.ni seat
          c.self.invariant.1 there none on low),
    )
