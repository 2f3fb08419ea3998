use Rattle.std.proofs.Common.{◌∙◌, sym, ap}
use Rattle.aeth_order.specs.{Order.first_by, Order.turn_order, Units.UnitsData}
use Rattle.aeth_order.proofs.NextLemmas.{next-seated, next-waiting}
use Rattle.aeth_order.proofs.units.Units.first.Goals as goal

-- The first that waits and has a core with a seat.
pub returns-in-Some : goal.returns-in-Some
returns-in-Some c =
    let units = c.self.inside in
    let places = c.args.seats.now.places in
    sym (next-seated units.grid.items units.marks.items units.order.items c.self.invariant places
    c.in-Some.keys (rw (c.deref.ensures.value, c.deref-2.ensures.value) at c.in-Some.ensures))
    ∙ ap (λ (us : UnitsData). first_by (turn_order places) us.waiting) c.self.view_is

-- Where there is none, the first that waits.
pub returns-in-None : goal.returns-in-None
returns-in-None c =
    let units = c.self.inside in
    let places = c.args.seats.now.places in
    sym (next-waiting units.grid.items units.marks.items units.order.items c.self.invariant places
    c.first_waiting.result
    (rw (c.deref.ensures.value, c.deref-2.ensures.value) at c.in-None.ensures)
    (rw (c.deref-in-None.ensures.value, c.deref-in-None-2.ensures.value) at
    c.first_waiting.ensures))
    ∙ ap (λ (us : UnitsData). first_by (turn_order places) us.waiting) c.self.view_is
