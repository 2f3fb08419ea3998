use Rattle.std.proofs.Common.{codes}
use Rattle.aeth_group.specs.Members.{groups_of}
use Rattle.aeth_plan.specs.{Plan.IsPlanOf, PlanText.plan_of, Refusals.rule_of}
use Rattle.aeth_answers.proofs.FileLemmas.{HandsOn-keeps, Judges-told}
use Rattle.aeth_files.proofs.files.plan_in.Goals as goal

-- The bytes are judged.
pub returns-clause-judges : goal.returns-clause-judges
returns-clause-judges c =
    λ now. Judges-told now (codes "plan") rule_of (λ plan. plan)
    (plan_of c.args.chip.now c.args.app.now (groups_of c.args.app.now) c.args.bytes.now) c.read_plan.result c.judged.result (rw c.requires at c.read_plan.ensures.reads)
    c.judged.ensures

-- What is handed on is what was read.
pub returns-clause-plan : goal.returns-clause-plan
returns-clause-plan c =
    HandsOn-keeps rule_of (codes "plan") (IsPlanOf c.args.chip.now c.args.app.now c.args.groups.now) c.read_plan.result c.judged.result
    c.read_plan.ensures.plan c.judged.ensures
