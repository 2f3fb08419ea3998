use Rattle.std.proofs.Common.{subst}
use Rattle.aeth_alloc.specs.{Allocation.OutcomeData, Prices.prices_of}
use Rattle.aeth_plan.specs.declared.design.Planned.{Planned}
use Rattle.aeth_answers.specs.Stop.{Judges}
use Rattle.aeth_run_commands.specs.Demo.{on_refusals}
use Rattle.aeth_run_commands.proofs.DemoLemmas.{granted_groups, granted_design, outcome_is}
use Rattle.aeth_run_commands.proofs.demo.granted.Goals as goal

-- The outcome is that of the allocation.
pub returns-clause-judges : goal.returns-clause-judges
returns-clause-judges c =
    let chip = c.args.design.now.chip in
    let app = c.args.design.now.app in
    let same = outcome_is chip app c.in_ok-groups.groups c.in_ok-outcome.outcome
    c.in_ok-groups.ensures.groups c.in_ok-outcome.ensures.gives in
    λ now. subst (λ (o : OutcomeData). Judges now now (on_refusals app o.plan o.refused)
    (λ (planned : Planned). planned.plan) c.without_refusals.result) same
    (c.without_refusals.ensures.judges now)

-- The groups are those of the application.
pub returns-clause-groups : goal.returns-clause-groups
returns-clause-groups c =
    granted_groups c.args.design.now.app c.in_ok-groups.groups c.without_refusals.result
    c.in_ok-groups.ensures.groups c.without_refusals.ensures.groups

-- Without refusals the plan is accepted.
pub returns-clause-design : goal.returns-clause-design
returns-clause-design c =
    let app = c.args.design.now.app in
    granted_design c.args.design.now.chip app c.in_ok-groups.groups c.in_ok-outcome.outcome
    c.in_ok-groups.ensures.groups c.in_ok-outcome.ensures.gives c.slots-chip_slots.ensures.chip
    c.slots-app_slots.ensures.app c.in_ok-outcome.ensures.plan
    (c.plans.ensures.accepted c.args.design.now.chip app (prices_of app.price)
    c.slots-chip_slots.ensures.chip c.slots-app_slots.ensures.app c.requires)
    c.without_refusals.result c.without_refusals.ensures.none c.without_refusals.ensures.plan
