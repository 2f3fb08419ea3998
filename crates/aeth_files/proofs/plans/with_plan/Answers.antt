use Rattle.std.proofs.{Common.refl, lemmas.Result.err_from_is_err_and}
use Rattle.aeth_plan.specs.{Plan.PlanData, declared.design.Planned.Planned}
use Rattle.aeth_answers.specs.{Places.files_of, Task.Judging}
use Rattle.aeth_answers.proofs.FileLemmas.{Judges-made, Judges-stopped, Judges-then}
use Rattle.aeth_chip.specs.Chip.{ChipData}
use Rattle.aeth_app.specs.App.{AppData}
use Rattle.aeth_files.specs.{Files.plan_file, Plans.accepted_plan}
use Rattle.aeth_files.proofs.plans.with_plan.Goals as goal

-- A plan that was read is accepted.
abbrev accepted : ChipData → AppData → PlanData → Judging PlanData
accepted chip app plan next = accepted_plan chip app plan (λ _. next plan)

-- There is no plan.
pub returns-in_err-plan-clause-judges : goal.returns-in_err-plan-clause-judges
returns-in_err-plan-clause-judges g c =
    let p = err_from_is_err_and c.from_residual.result c.from_residual.ensures.1 in
    let chip = c.args.design.now.chip in
    let app = c.args.design.now.app in
    rw (p.1, p.2)
    (Judges-stopped (files_of g.H.Shelf c.args.shelf.now)
    (files_of g.H.Shelf c.read_plan_file.new.shelf) (plan_file chip app c.args.name.now)
    (accepted chip app) (λ (plan : PlanData). plan) (λ (planned : Planned). planned.plan) _
    c.in_err-plan.ensures.judges)

-- The plan isn't accepted.
pub returns-in_err-accept_plan-clause-judges : goal.returns-in_err-accept_plan-clause-judges
returns-in_err-accept_plan-clause-judges g c =
    let p = err_from_is_err_and c.from_residual-in_err-accept_plan.result
    c.from_residual-in_err-accept_plan.ensures.1 in
    let now = files_of g.H.Shelf c.read_plan_file.new.shelf in
    let chip = c.args.design.now.chip in
    let app = c.args.design.now.app in
    let plan = c.in_ok-plan.plan in
    rw (p.1, p.2)
    (Judges-then (files_of g.H.Shelf c.args.shelf.now) now now
    (plan_file chip app c.args.name.now) (accepted chip app) (λ (one : PlanData). one) plan
    (λ (planned : Planned). planned.plan) _ c.in_ok-plan.ensures.judges
    (Judges-stopped now now (accepted_plan chip app plan) (λ _ next. next plan)
    (λ (done : Unit {0}). done) (λ (planned : Planned). planned.plan) _
    (c.in_err-accept_plan.ensures.judges now)))

-- The plan is accepted.
pub returns-clause-judges : goal.returns-clause-judges
returns-clause-judges g c =
    let now = files_of g.H.Shelf c.read_plan_file.new.shelf in
    let chip = c.args.design.now.chip in
    let app = c.args.design.now.app in
    let plan = c.in_ok-plan.plan in
    Judges-then (files_of g.H.Shelf c.args.shelf.now) now now
    (plan_file chip app c.args.name.now) (accepted chip app) (λ (one : PlanData). one) plan
    (λ (planned : Planned). planned.plan) _ c.in_ok-plan.ensures.judges
    (Judges-made now now (accepted_plan chip app plan) (λ _. plan) (λ (done : Unit {0}). done) tt
    (λ (planned : Planned). planned.plan) _ refl (c.in_ok-accept_plan.ensures.judges now))
