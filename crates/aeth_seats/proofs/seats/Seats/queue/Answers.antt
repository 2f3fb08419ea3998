use Rattle.std.proofs.Common.{◌∙◌, ◌<◌, sym, arith, subst, IfSome}
use Rattle.aeth_app.specs.Limits.{seats_per_ni}
use Rattle.aeth_seats.specs.Places.{Place}
use Rattle.aeth_seats.proofs.seats.Seats.queue.Goals as goal

-- The number of a seat is below 4, and a position below 8.
pub overflow_cast-result-2 : goal.overflow_cast-result-2
overflow_cast-result-2 c =
    let within = subst (λ place. IfSome place (λ (place : Place).
    (place.0.0 < c.self.inside.table.nis) × (place.1 < seats_per_ni)))
    (sym c.seat.ensures ∙ c.unwrap-seat.ensures) (c.self.invariant.within c.args.core.0) in
    omega (arith, within.1, c.position.ensures.few)
