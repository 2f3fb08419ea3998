use Rattle.std.proofs.Common.{◌≡◌, ◌∙◌, ◌-◌, ◌<◌, ℕ, Some, drop, false, get_or, length, set, true}
use Rattle.std.proofs.Common.{sym, ap, subst, arith, Bool}
use Rattle.std.proofs.lemmas.Option.{slice_get-get_or}
use Rattle.aeth_check.specs.Seats.{HasMarks, seat_place}
use Rattle.aeth_check.proofs.MarkLaws.{apart_back, mark_back, no_line_of_seat}
use Rattle.aeth_check.proofs.seats.are_apart.Goals as goal

-- One seat more is marked, and is none of those behind it.
pub seats-preserved : goal.seats-preserved
seats-preserved c =
    let seats = c.args.seats.now in
    let left = c.seats.left in
    let place : ℕ = seat_place (get_or seats (left - 1) no_line_of_seat) in
    let is : c.seat_place-place.result ≡ place = c.seat_place-place.ensures in
    let low : place < length c.seats.marks = omega (arith, is, c.if-place-marks.false) in
    record {
      within = omega (arith, c.seats.invariant.within);
      marks = subst (λ n. HasMarks (drop (left - 1) seats) (set c.seats.marks n true)) (sym is)
          (mark_back seats left c.seats.marks c.seats-test.true c.seats.invariant.within
          c.seats.invariant.marks low);
      apart = apart_back seats left c.seats.marks c.seats-test.true c.seats.invariant.within
          c.seats.invariant.marks
          (slice_get-get_or c.seats.marks place false low
          ∙ ap (λ (b : Bool). Some b) (ap (λ n. get_or c.seats.marks n false) (sym is)
          ∙ c.if-marks-place.false)) c.seats.invariant.apart;
    }
