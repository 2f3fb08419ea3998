use Rattle.std.proofs.Common.{◌≡◌, List, subst, IfOk}
use Rattle.aeth_base.specs.declared.ids.LinkId.{LinkId}
use Rattle.aeth_explain.specs.Masks.{TryJudgeData}
use Rattle.aeth_explain.specs.Verdict.{IsLeastOpen}
use Rattle.aeth_explain.specs.declared.verdict.CutVerdict.{CutVerdict, TheVariants.Open}
use Rattle.aeth_explain.proofs.judge.verify.Goals as goal

-- The judge is one of the try.
pub returns-clause-least : goal.returns-clause-least
returns-clause-least c =
    subst (λ (j : TryJudgeData). IfOk c.verify_with.result (λ (verdict : CutVerdict).
    (path : List LinkId) → verdict ≡ Open path → IsLeastOpen j.chip j.trial c.args.cuts.now path))
    c.in_ok-judge.ensures c.verify_with.ensures.least
