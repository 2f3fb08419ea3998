-- Laws of an allocation with whose plan a task goes on.
use Rattle.std.proofs.Common.{◌≡◌, ◌≢◌, ◌∙◌, List, [], ◌∷◌, Result, Ok, Err, IfOk, ap, refl, subst}
use Rattle.std.proofs.Common.{sym}
use Rattle.aeth_alloc.specs.{Allocation.OutcomeData, Allocation.allocation, Prices.prices_of}
use Rattle.aeth_alloc.specs.{declared.outcome.Refused.Refused}
use Rattle.aeth_app.specs.App.{AppData, IsApp}
use Rattle.aeth_chip.specs.Chip.{ChipData, IsChip}
use Rattle.aeth_group.specs.Members.{GroupsData, groups_of}
use Rattle.aeth_plan.specs.{Plan.IsPlanOf, Plan.PlanData, Accepted.IsAccepted, Design.IsDesign}
use Rattle.aeth_plan.specs.{declared.design.Planned.Planned}
use Rattle.aeth_answers.specs.{declared.answer.Stop.Stop, declared.answer.Stop.TheVariants.Ends}
use Rattle.aeth_answers.specs.{Job.Job, Job.not_granted, Places.Files, Stop.Judges, Task.IsAnswer}
use Rattle.aeth_answers.specs.{Task.Task}
use Rattle.aeth_answers.proofs.{FileLemmas.IsAnswer-not_granted, TaskLemmas.IsAfter-same}
use Rattle.aeth_design_commands.specs.Allocate.{refusals_text}
use Rattle.aeth_run_commands.specs.Demo.{on_refusals}

-- Refused units end the task.
IsAnswer-on_refusals : (now : Files) (app : AppData) (plan : PlanData) (refused : List Refused)
    (next : PlanData → Task) (answer : Job) → refused ≢ []
    → answer ≡ not_granted (refusals_text app refused)
    → IsAnswer now now (on_refusals app plan refused next) answer
IsAnswer-on_refusals now app plan [] next answer some is = absurd (some refl)
IsAnswer-on_refusals now app plan (first ∷ others) next answer some is =
    IsAnswer-not_granted now (refusals_text app (first ∷ others)) answer is

module _ (chip : ChipData) (app : AppData) (groups : GroupsData) (outcome : OutcomeData)
    (of_app : groups ≡ groups_of app)
    (gives : outcome ≡ allocation chip app groups (prices_of app.price)) where
  -- The outcome is that with the groups of the application.
  pub outcome_is : outcome ≡ allocation chip app (groups_of app) (prices_of app.price)
  outcome_is = gives
      ∙ ap (λ (g : GroupsData). allocation chip app g (prices_of app.price)) of_app

  -- Without refusals the plan is accepted.
  pub plan_accepted : ((allocation chip app (groups_of app) (prices_of app.price)).refused ≡ []
      → IsAccepted chip app (groups_of app)
      (allocation chip app (groups_of app) (prices_of app.price)).plan)
      → outcome.refused ≡ [] → IsAccepted chip app (groups_of app) outcome.plan
  plan_accepted accepted none =
      let none_there = ap (λ (o : OutcomeData). o.refused) (sym outcome_is) ∙ none in
      rw outcome_is (accepted none_there)

  -- So it is an accepted plan for the chip and the application.
  design_granted : IsChip chip → IsApp app → IsPlanOf chip app groups outcome.plan
      → ((allocation chip app (groups_of app) (prices_of app.price)).refused ≡ []
      → IsAccepted chip app (groups_of app)
      (allocation chip app (groups_of app) (prices_of app.price)).plan)
      → outcome.refused ≡ [] → IsDesign chip app outcome.plan
  design_granted is_chip is_app is_plan accepted none = record {
    chip_is = is_chip;
    app_is = is_app;
    plan_is = subst (λ (g : GroupsData). IsPlanOf chip app g outcome.plan) of_app is_plan;
    accepted = plan_accepted accepted none;
  }

  -- The same of what is planned by it.
  pub granted_design : IsChip chip → IsApp app → IsPlanOf chip app groups outcome.plan
      → ((allocation chip app (groups_of app) (prices_of app.price)).refused ≡ []
      → IsAccepted chip app (groups_of app)
      (allocation chip app (groups_of app) (prices_of app.price)).plan)
      → (came : Result Planned Stop) → IfOk came (λ _. outcome.refused ≡ [])
      → IfOk came (λ planned. planned.plan ≡ outcome.plan)
      → IfOk came (λ planned. IsDesign chip app planned.plan)
  granted_design is_chip is_app is_plan accepted (Ok planned) none same =
      subst (λ (plan : PlanData). IsDesign chip app plan) (sym same)
      (design_granted is_chip is_app is_plan accepted none)
  granted_design is_chip is_app is_plan accepted (Err stop) none same = tt

-- What is planned has the groups of the application.
pub granted_groups : (app : AppData) (groups : GroupsData) (came : Result Planned Stop)
    → groups ≡ groups_of app → IfOk came (λ planned. planned.groups ≡ groups)
    → IfOk came (λ planned. planned.groups ≡ groups_of app)
granted_groups app groups (Ok planned) of_app same = same ∙ of_app
granted_groups app groups (Err stop) of_app same = tt

-- Without refusals a task goes on with the plan.
go_on : (now new : Files) (app : AppData) (plan : PlanData) (refused : List Refused)
    (next : PlanData → Task) (answer : Job) → refused ≡ [] → IsAnswer now new (next plan) answer
    → IsAnswer now new (on_refusals app plan refused next) answer
go_on now new app plan [] next answer none answers = answers
go_on now new app plan (first ∷ others) next answer none answers = cc

pub Judges-no_refusals : (app : AppData) (outcome : OutcomeData) (planned : Planned)
    → planned.plan ≡ outcome.plan → outcome.refused ≡ [] → (now : Files)
    → Judges now now (on_refusals app outcome.plan outcome.refused)
    (λ (one : Planned). one.plan) (Ok planned)
Judges-no_refusals app outcome planned same none now = record {
  after = IsAfter-same now;
  faultless = λ name. refl;
  judges = λ next new answer answers. go_on now new app outcome.plan outcome.refused next answer none
      (subst (λ (plan : PlanData). IsAnswer now new (next plan) answer) same answers);
}

-- With refusals it ends by them.
pub Judges-refusals : (app : AppData) (outcome : OutcomeData) (answer : Job)
    → outcome.refused ≢ [] → answer ≡ not_granted (refusals_text app outcome.refused)
    → (now : Files)
    → Judges now now (on_refusals app outcome.plan outcome.refused)
    (λ (one : Planned). one.plan) (Err (Ends answer))
Judges-refusals app outcome answer some is now = record {
  after = IsAfter-same now;
  faultless = tt;
  judges = λ next.
      IsAnswer-on_refusals now app outcome.plan outcome.refused next answer some is;
}
