use Rattle.std.proofs.Common.{◌≡◌, [], IfOk, Result, Ok, Err}
use Rattle.aeth_group.specs.Members.{GroupsData, groups_of}
use Rattle.aeth_plan.specs.{Making.IsPlanWith, Plan.IsPlanOf, Accepted.IsAccepted}
use Rattle.aeth_alloc.specs.{Allocation.OutcomeData, Allocation.allocation, Channels.Design}
use Rattle.aeth_alloc.specs.{Refusals.LacksOnlyRefused, Refusals.RefusesExactly}
use Rattle.aeth_alloc.proofs.OutcomeLemmas.{allocation-made, allocation-refuses, of-made}
use Rattle.aeth_alloc.proofs.OutcomeLemmas.{state-apart}
use Rattle.aeth_alloc.proofs.PlanLemmas.{allocation-accepted, allocation-lacks}
use Rattle.aeth_alloc.proofs.PlanOfLemmas.{allocation-plan_of}
use Rattle.aeth_alloc.proofs.allocation.allocate_with.Goals.{After-outcome}
use Rattle.aeth_alloc.proofs.allocation.allocate_with.Given as given
use Rattle.aeth_alloc.proofs.allocation.allocate_with.Goals as goal

-- The grants of the last state stand apart.
pub outcome-requires : goal.outcome-requires
outcome-requires g c =
    let design : Design = record {
      chip = c.args.chip.now;
      app = c.args.app.now;
      prices = c.args.cost.now;
    } in
    state-apart design c.args.groups.now c.in_ok-state.state c.slots-slots.ensures.chip
    c.slots-app_slots.ensures.app c.requires.app c.requires.groups c.in_ok-state.ensures

-- What is made of the last state is the allocation.
made : (g : given.Over) (c : goal.After-outcome g) {E : Type 0} (answer : Result OutcomeData E)
    → IfOk answer (λ outcome. IsPlanWith c.args.chip.now c.in_ok-state.state.reserved.seats
    c.in_ok-state.state.reserved.book.grants outcome.plan)
    → IfOk answer (λ outcome. outcome.refused ≡ c.in_ok-state.state.refused)
    → IfOk answer (λ outcome. outcome
    ≡ allocation c.args.chip.now c.args.app.now c.args.groups.now c.args.cost.now)
made g c (Ok outcome) plan refused =
    allocation-made c.args.chip.now c.args.app.now c.args.groups.now c.args.cost.now
    c.in_ok-state.state outcome c.slots-slots.ensures.chip c.slots-app_slots.ensures.app
    c.requires.app c.requires.groups c.in_ok-state.ensures plan refused
made g c (Err e) plan refused = tt

pub returns-clause-gives : goal.returns-clause-gives
returns-clause-gives g c =
    made g (goal.at.returns-clause-gives g c).After-outcome c.outcome.result c.outcome.ensures.plan
    c.outcome.ensures.refused

-- What holds of the allocation holds of it.
holds : (g : given.Over) (c : goal.After-outcome g) {E : Type 0} (answer : Result OutcomeData E)
    → IfOk answer (λ outcome. IsPlanWith c.args.chip.now c.in_ok-state.state.reserved.seats
    c.in_ok-state.state.reserved.book.grants outcome.plan)
    → IfOk answer (λ outcome. outcome.refused ≡ c.in_ok-state.state.refused)
    → (P : GroupsData → OutcomeData → Type 0)
    → P (groups_of c.args.app.now) (allocation c.args.chip.now c.args.app.now
    (groups_of c.args.app.now) c.args.cost.now)
    → IfOk answer (P c.args.groups.now)
holds g c answer plan refused P is =
    of-made c.args.chip.now c.args.app.now c.args.groups.now c.args.cost.now c.requires.groups P is
    answer (made g c answer plan refused)

-- Its plan is one for the chip, the application and its groups.
pub returns-clause-plan : goal.returns-clause-plan
returns-clause-plan g c =
    holds g (goal.at.returns-clause-plan g c).After-outcome c.outcome.result c.outcome.ensures.plan
    c.outcome.ensures.refused
    (λ groups outcome. IsPlanOf c.args.chip.now c.args.app.now groups outcome.plan)
    (allocation-plan_of c.args.chip.now c.args.app.now c.args.cost.now c.slots-slots.ensures.chip
    c.slots-app_slots.ensures.app c.requires.app)

-- It breaks no rule but that refused units lack sides.
pub returns-clause-lacks : goal.returns-clause-lacks
returns-clause-lacks g c =
    holds g (goal.at.returns-clause-lacks g c).After-outcome c.outcome.result
    c.outcome.ensures.plan c.outcome.ensures.refused
    (LacksOnlyRefused c.args.chip.now c.args.app.now)
    (allocation-lacks c.args.chip.now c.args.app.now c.args.cost.now c.slots-slots.ensures.chip
    c.slots-app_slots.ensures.app c.requires.app)

-- Exactly those are refused of which a channel has no candidate.
pub returns-clause-refused : goal.returns-clause-refused
returns-clause-refused g c =
    holds g (goal.at.returns-clause-refused g c).After-outcome c.outcome.result
    c.outcome.ensures.plan c.outcome.ensures.refused
    (λ groups outcome. RefusesExactly (record {
      chip = c.args.chip.now;
      app = c.args.app.now;
      prices = c.args.cost.now;
    }) groups outcome.refused)
    (allocation-refuses c.args.chip.now c.args.app.now c.args.cost.now c.slots-slots.ensures.chip
    c.slots-app_slots.ensures.app c.requires.app)

-- With no refusal it is accepted.
pub returns-clause-accepted : goal.returns-clause-accepted
returns-clause-accepted g c =
    holds g (goal.at.returns-clause-accepted g c).After-outcome c.outcome.result
    c.outcome.ensures.plan c.outcome.ensures.refused
    (λ groups outcome. outcome.refused ≡ []
    → IsAccepted c.args.chip.now c.args.app.now groups outcome.plan)
    (allocation-accepted c.args.chip.now c.args.app.now c.args.cost.now c.slots-slots.ensures.chip
    c.slots-app_slots.ensures.app c.requires.app)
