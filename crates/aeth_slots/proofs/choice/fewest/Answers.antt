use Rattle.std.proofs.Common.{◌+◌, ◌-◌, ◌∙◌, ap, inl, inr, arith}
use Rattle.std.proofs.lemmas.Bool.{cases_lt}
use Rattle.aeth_slots.proofs.{EarliestSlots.none_near, EarliestSlots.earliest_none}
use Rattle.aeth_slots.proofs.{EarliestSlots.earliest_more, Ways.way_short, Rounds.free_below}
use Rattle.aeth_slots.proofs.{RoundSearch.fewest_more, RoundSearch.none_crosses}
use Rattle.aeth_slots.proofs.choice.fewest.Goals as goal

-- No free slot is near enough to the end.
pub returns-in_err-earliest-clause-none : goal.returns-in_err-earliest-clause-none
returns-in_err-earliest-clause-none c = rw c.from_residual.ensures (λ way round.
    none_near c.args.free.now.slots (c.args.first + c.args.free.now.size) c.args.gap
    (λ slot member. let far = c.in_err-earliest.ensures.none slot member in
    omega (arith, c.saturating_sub.ensures, c.size-size.ensures.size))
    way c.args.first round.0 round.1)

-- Over no slot.
pub loop-count-init : goal.loop-count-init
loop-count-init c = record {
  is_earliest =
      earliest_none
      (c.saturating_sub.ensures
      ∙ ap (λ k. (c.args.first + k) - c.args.gap) c.size-size.ensures.size)
      c.in_ok-earliest.ensures.some;
  fewest = λ way is_way. omega arith;
}

-- The slot itself lies at or after the place that is looked up.
pub returns-in_err-next-clause-none : goal.returns-in_err-next-clause-none
returns-in_err-next-clause-none c =
    let before =
    c.in_err-next.ensures.none c.loop-count.earliest
    c.loop-count.invariant.is_earliest.member in absurd (omega arith)

-- No way leads from before the earliest to it.
pub returns-then-next-earliest-clause-none : goal.returns-then-next-earliest-clause-none
returns-then-next-earliest-clause-none c = λ way round.
    none_crosses c.args.free.now.slots (c.args.first + c.args.free.now.size) c.args.gap
    c.loop-count.earliest c.args.first way
    (λ slot has before. elim (cases_lt slot c.saturating_sub-in-loop-count.result) [
      | inl far ↦ omega (arith, c.saturating_sub-in-loop-count.ensures)
      | inr near ↦
          absurd (omega (arith, c.in_ok-next.ensures.some.least slot has near))
    ])
    (let below = free_below c.size-size.ensures.set c.loop-count.earliest
    c.loop-count.invariant.is_earliest.member in omega arith)
    (c.has.ensures.0 c.if-not-has.false) (omega arith) round.1

-- The first slot comes before the earliest, so one slot more is needed.
pub loop-count-preserved : goal.loop-count-preserved
loop-count-preserved c = record {
  is_earliest =
      earliest_more c.loop-count.invariant.is_earliest c.saturating_sub-in-loop-count.ensures
      c.in_ok-next.ensures.some;
  fewest =
      fewest_more c.args.free.now.slots (c.args.first + c.args.free.now.size) c.args.gap
      c.args.first c.loop-count.count c.loop-count.earliest
      (c.has.ensures.0 c.if-not-has.false) c.loop-count.invariant (omega arith);
}

-- A way has fewer slots than the table.
pub returns-clause-none : goal.returns-clause-none
returns-clause-none c = λ way round.
    let many = c.loop-count.invariant.fewest way round.1 in
    let few =
    way_short c.args.free.now.slots (c.args.first + c.args.free.now.size) c.args.gap
    c.args.free.now.size c.args.first way
    (free_below c.size-size.ensures.set) c.requires round.1 in
    omega (arith, c.size-size.ensures.size)
