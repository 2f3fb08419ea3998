use Rattle.std.proofs.{Common.refl, lemmas.Result.err_from_is_err_and}
use Rattle.aeth_base.specs.declared.ids.UseId.{UseId}
use Rattle.aeth_plan.specs.Plan.{PlanData}
use Rattle.aeth_plan.specs.declared.design.{Design.Design, Planned.Planned}
use Rattle.aeth_answers.specs.Places.{files_of}
use Rattle.aeth_answers.proofs.FileLemmas.{Judges-made, Judges-stopped}
use Rattle.aeth_files.specs.Plans.{accepted_file}
use Rattle.aeth_plan_commands.specs.PlannedUses.{PlannedUseData, seen_use}
use Rattle.aeth_plan_commands.proofs.planned_uses.with_plan.Goals as goal

-- A plan for a use case.
abbrev made_of : Design → UseId → PlanData → PlannedUseData
made_of design u plan = record { design = design; plan = plan; use_case = u }

-- There is no accepted plan.
pub returns-in_err-planned-clause-judges : goal.returns-in_err-planned-clause-judges
returns-in_err-planned-clause-judges g c =
    let p = err_from_is_err_and c.from_residual.result c.from_residual.ensures.1 in
    let design = c.args.design in
    rw (p.1, p.2)
    (Judges-stopped (files_of g.H.Shelf c.args.shelf.now)
    (files_of g.H.Shelf c.read_accepted.new.shelf)
    (accepted_file design.chip design.app c.args.files.now.plan)
    (λ (plan : PlanData) next. next (made_of design c.args.u plan))
    (λ (planned : Planned). planned.plan) seen_use _ c.in_err-planned.ensures.judges)

-- There is one.
pub returns-clause-judges : goal.returns-clause-judges
returns-clause-judges g c =
    let design = c.args.design in
    Judges-made (files_of g.H.Shelf c.args.shelf.now)
    (files_of g.H.Shelf c.read_accepted.new.shelf)
    (accepted_file design.chip design.app c.args.files.now.plan) (made_of design c.args.u)
    (λ (planned : Planned). planned.plan) c.in_ok-planned.planned seen_use _ refl
    c.in_ok-planned.ensures.judges
