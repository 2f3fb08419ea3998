use Rattle.aeth_plan.specs.{Layout.first_seat_line, Plan.grant_before, Plan.seat_before}
use Rattle.aeth_text.proofs.OrderLaws.{rises}
use Rattle.aeth_plan.proofs.read.plan_in.Goals as goal

-- The lines are in order.
pub new-requires : goal.new-requires
new-requires c = record {
  seats = rises seat_before first_seat_line c.in_ok-seats.seats.items
      (rw c.deref-4.ensures.value at c.in_ok-seats_in_order.ensures.ok);
  grants = rises grant_before c.first_grant_line-first.result c.in_ok-grants.grants.items
      (rw c.deref-5.ensures.value at c.in_ok-grants_in_order.ensures.ok);
}
