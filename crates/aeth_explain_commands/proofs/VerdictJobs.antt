-- Laws of the answer to certificates.
use Rattle.std.proofs.Common.{◌≢◌, ◌<◌, ◌+◌, ℕ, List, [], ◌∷◌, arith, length, unwrap_or}
use Rattle.aeth_answers.specs.{Job.Job, Status.read_fault_status, Status.usage_status}
use Rattle.aeth_base.specs.declared.ids.LinkId.{LinkId}
use Rattle.aeth_explain.specs.Verdict.{verdict_of}
use Rattle.aeth_explain.specs.declared.verdict.CutVerdict.{CutVerdict}
use Rattle.aeth_explain.specs.declared.verdict.CutVerdict.TheVariants.{Complete, NotDead, Open}
use Rattle.aeth_group.specs.Members.{groups_of}
use Rattle.aeth_paths.specs.Trials.{TrialData}
use Rattle.aeth_plan.specs.declared.design.Design.{Design}
use Rattle.aeth_text.specs.Order.{line_after}
use Rattle.aeth_explain_commands.specs.Explain.{flaw_of, verdicts_job}

-- The answer of a verdict, or a later one, is one to a command that has read its files.
abbrev IsJob : Job → Type 0
IsJob job = (job.status < read_fault_status) × (job.status ≢ usage_status)

of-verdict : (design : Design) (line : ℕ) (trial : TrialData) (verdict : CutVerdict) (later : Job)
    → IsJob later → IsJob (unwrap_or (flaw_of design.app line trial verdict) later)
of-verdict design line trial Complete later is = is
of-verdict design line trial (NotDead cut) later is = (omega arith, λ usage. omega (arith, usage))
of-verdict design line trial (Open path) later is = (omega arith, λ usage. omega (arith, usage))

pub verdicts_job-is : (design : Design) (line : ℕ) (trials : List TrialData)
    (blocks : List (List (List LinkId))) → IsJob (verdicts_job design line trials blocks)
verdicts_job-is design line [] blocks = (omega arith, λ usage. omega (arith, usage))
verdicts_job-is design line (trial ∷ trials) [] = (omega arith, λ usage. omega (arith, usage))
verdicts_job-is design line (trial ∷ trials) (own ∷ blocks) =
    of-verdict design line trial (verdict_of design.chip (groups_of design.app) trial own) _
    (verdicts_job-is design (line_after line (1 + length own)) trials blocks)
