use Rattle.aeth_check.proofs.PlanParts.{answer_accepts, are_placed, are_within, connections_of}
use Rattle.aeth_check.proofs.judging.check.Goals as goal

-- The groups are the application's, and the plan is one for them.
pub judge-requires : goal.judge-requires
judge-requires c = record {
  chip = c.slots-slots.ensures.chip;
  connections = connections_of c.args.app.now c.args.groups.now c.requires.groups;
  order = c.requires.plan.in_order.grants;
  within = are_within c.args.chip.now c.args.app.now c.args.groups.now c.args.plan.now
      c.requires.plan;
  placed = are_placed c.args.chip.now c.slots-slots.ensures.chip c.args.app.now c.args.groups.now
      c.args.plan.now c.requires.plan;
}

-- What is answered accepts exactly the plans that are accepted.
pub returns-clause-accepted : goal.returns-clause-accepted
returns-clause-accepted c =
    answer_accepts c.args.chip.now c.slots-slots.ensures.chip c.args.app.now c.args.groups.now
    c.args.plan.now _ c.judge.ensures
