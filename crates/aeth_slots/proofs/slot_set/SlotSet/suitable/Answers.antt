use Rattle.std.proofs.Common.{◌∙◌, sym, arith}
use Rattle.aeth_slots.proofs.Rounds.{free_below}
use Rattle.aeth_slots.proofs.SuitedLemmas.{none_suitable, round_suitable, suitable_round}
use Rattle.aeth_slots.proofs.slot_set.SlotSet.suitable.Goals as goal

-- Without a slot no set is suitable.
pub returns-in_default-clause-suitable : goal.returns-in_default-clause-suitable
returns-in_default-clause-suitable c = (
  (λ is. cc),
  (λ suitable. absurd (none_suitable c.args.self.now c.args.need c.args.gap
      c.in_default.ensures.none suitable)),
)

-- The first slot is below the size.
pub fewest-requires : goal.fewest-requires
fewest-requires c =
    free_below c.count-count.ensures.set c.in-Some.first c.in-Some.ensures.some.member

-- A round starts at the first slot exactly where no gap is above the limit.
pub returns-then-count-need-clause-suitable : goal.returns-then-count-need-clause-suitable
returns-then-count-need-clause-suitable c =
    let is = c.is_some.ensures in (
      (λ some. round_suitable c.args.self.now c.args.need c.args.gap c.in-Some.first c.fewest.result
          c.count-count.ensures.set c.fewest.ensures.some c.fewest.ensures.member
          (omega (arith, c.count-count.ensures.count)) (sym is ∙ some)),
      (λ suitable. is
          ∙ suitable_round c.args.self.now c.args.need c.args.gap c.in-Some.first c.fewest.result
          c.count-count.ensures.set c.in-Some.ensures.some c.fewest.ensures.none suitable),
    )
