use Rattle.std.proofs.Common.{◌≡◌, ◌-◌, List, Some, drop, get_or, length, set, sym, subst, arith}
use Rattle.std.proofs.lemmas.List.{drop_all}
use Rattle.aeth_group.specs.declared.grant.SeatLine.{SeatLine}
use Rattle.aeth_check.specs.Seats.{AreSeatedAt}
use Rattle.aeth_check.proofs.{MeetingLaws.drop_back_or, SeatLaws.seat_beyond, SeatLaws.seat_put}
use Rattle.aeth_check.proofs.seating.put_nis.Goals as goal

-- What stands where there is no seat.
abbrev no_line : SeatLine
no_line = record { core = record { 0 = 0 }; ni = record { 0 = 0 }; seat = 0 }

-- No seat is left behind the last.
pub seats-init : goal.seats-init
seats-init c =
    let seats = c.args.seats.now in
    record {
      within = omega arith;
      are = subst (λ (those : List SeatLine). AreSeatedAt those (length c.args.nis.now)
          c.args.nis.now) (sym (drop_all (length seats) seats (omega arith))) c.requires;
    }

-- The core of a seat is in the table.
pub seats-preserved-then-core-nis : goal.seats-preserved-then-core-nis
seats-preserved-then-core-nis c =
    let seats = c.args.seats.now in
    let line : SeatLine = get_or seats (c.seats.left - 1) no_line in
    record {
      within = omega (arith, c.seats.invariant.within);
      are = subst (λ (those : List SeatLine). AreSeatedAt those (length c.args.nis.now)
          (set c.seats.nis line.core.0 (Some line.ni)))
          (sym (drop_back_or seats c.seats.left no_line c.seats-test.true c.seats.invariant.within))
          (seat_put line (drop c.seats.left seats) (length c.args.nis.now) c.seats.nis
          (omega (arith, c.if-core-nis.true, c.seats.auto.nis)) c.seats.invariant.are);
    }

-- It is beyond it.
pub seats-preserved : goal.seats-preserved
seats-preserved c =
    let seats = c.args.seats.now in
    let line : SeatLine = get_or seats (c.seats.left - 1) no_line in
    record {
      within = omega (arith, c.seats.invariant.within);
      are = subst (λ (those : List SeatLine). AreSeatedAt those (length c.args.nis.now) c.seats.nis)
          (sym (drop_back_or seats c.seats.left no_line c.seats-test.true c.seats.invariant.within))
          (seat_beyond line (drop c.seats.left seats) (length c.args.nis.now) c.seats.nis
          (omega (arith, c.if-core-nis.false, c.seats.auto.nis)) c.seats.invariant.are);
    }

-- The table has all seats.
pub returns : goal.returns
returns c =
    let all : c.seats.left ≡ 0 = omega (arith, c.seats-test.false) in
    subst (λ n. AreSeatedAt (drop n c.args.seats.now) (length c.args.nis.now) c.seats.nis) all
    c.seats.invariant.are
