use Rattle.std.proofs.Common.{◌≡◌, ◌∙◌, arith, refl, subst, length-set}
use Rattle.aeth_slots.specs.Ways.{AreEarliest}
use Rattle.aeth_slots.proofs.EarliestSlots.{earliest_more, earliest_none, earliest_put, none_near}
use Rattle.aeth_slots.proofs.choice.earliest_slots.Goals as goal

-- No free slot is near enough to the end.
pub returns-in_err-earliest-clause-none : goal.returns-in_err-earliest-clause-none
returns-in_err-earliest-clause-none c = rw c.from_residual.ensures
    (none_near c.args.free.now.slots c.args.end c.args.gap
    (λ slot member. let far = c.in_err-earliest.ensures.none slot member in omega arith))

-- Over no slot.
pub loop-most-init : goal.loop-most-init
loop-most-init c = record {
  size = refl;
  each = record { each = λ most within. absurd (omega arith) };
  next = earliest_none c.saturating_sub.ensures c.in_ok-earliest.ensures.some;
}

-- The slot itself lies at or after the place that is looked up.
pub returns-in_err-earliest-2-clause-none : goal.returns-in_err-earliest-2-clause-none
returns-in_err-earliest-2-clause-none c =
    let before =
    c.in_err-earliest-2.ensures.none c.loop-most.earliest c.loop-most.invariant.next.member in
    absurd (omega arith)

-- Over one slot more.
pub loop-most-preserved : goal.loop-most-preserved
loop-most-preserved c = record {
  size = length-set c.loop-most.slots c.loop-most.most c.loop-most.earliest
      ∙ c.loop-most.invariant.size;
  each = earliest_put c.loop-most.invariant.each c.loop-most.invariant.next
      (omega (arith, c.requires, c.loop-most.invariant.size));
  next = earliest_more c.loop-most.invariant.next c.saturating_sub-in-loop-most.ensures
      c.in_ok-earliest-2.ensures.some;
}

-- The loop was left after all its turns.
pub returns-clause-some : goal.returns-clause-some
returns-clause-some c =
    let all : c.loop-most.most ≡ c.args.count = omega arith in
    subst (λ count. AreEarliest c.args.free.now.slots c.args.end c.args.gap count c.loop-most.slots)
    all c.loop-most.invariant.each
