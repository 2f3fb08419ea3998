use Rattle.aeth_scheduling.proofs.schedule.lines_of_use.Goals as goal

-- The plan is accepted.
pub tables-requires-clause-plan : goal.tables-requires-clause-plan
tables-requires-clause-plan c =
    rw (c.chip.ensures, c.app.ensures, c.groups.ensures, c.plan.ensures)
    c.are_accepted.ensures.design.plan_is

pub tables-requires-clause-accepted : goal.tables-requires-clause-accepted
tables-requires-clause-accepted c =
    rw (c.chip.ensures, c.app.ensures, c.groups.ensures, c.plan.ensures)
    c.are_accepted.ensures.design.accepted
