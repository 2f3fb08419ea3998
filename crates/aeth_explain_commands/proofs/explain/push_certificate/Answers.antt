use Rattle.std.proofs.Common.{subst}
use Rattle.aeth_explain.specs.{Cuts.HasCandidate, Masks.TryJudgeData}
use Rattle.aeth_group.specs.Members.{GroupsData}
use Rattle.aeth_explain_commands.proofs.explain.push_certificate.Goals as goal

-- Nothing is a candidate for it.
pub returns : goal.returns
returns c =
    absurd (c.requires.refusals.none c.args.trial.now c.requires.trial
    (subst (λ (g : GroupsData). HasCandidate c.args.design.now.chip g c.args.trial.now)
    c.requires.refusals.groups
    (subst (λ (j : TryJudgeData). HasCandidate j.chip j.groups j.trial) c.in_ok-judge.ensures
    (rw c.in-None.is at c.in_ok-made.ensures.is))))
