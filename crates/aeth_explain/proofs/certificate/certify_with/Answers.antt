use Rattle.std.proofs.Common.{◌≡◌, List, Option, subst, IfOk}
use Rattle.aeth_base.specs.declared.ids.LinkId.{LinkId}
use Rattle.aeth_chip.specs.Chip.{ChipData}
use Rattle.aeth_paths.specs.Trials.{TrialData}
use Rattle.aeth_explain.specs.Certificate.{certificate_of}
use Rattle.aeth_explain.proofs.{LeastLemmas.certificate-order, StepLemmas.certificate-told}
use Rattle.aeth_explain.proofs.{certificate.certify_with.Goals.After-shortest_cuts}
use Rattle.aeth_explain.proofs.certificate.certify_with.Goals as goal

-- It is the certificate of the try.
gives : (c : After-shortest_cuts)
    → IfOk c.shortest_cuts.result (λ (cuts : Option (List (List LinkId))).
    cuts ≡ certificate_of c.args.judge.now.chip c.args.judge.now.groups c.args.judge.now.trial)
gives c =
    let groups = c.args.judge.now.groups in
    subst (λ (chip : ChipData). IfOk c.shortest_cuts.result
    (λ (cuts : Option (List (List LinkId))).
    cuts ≡ certificate_of chip groups c.args.judge.now.trial)) c.chip.ensures.chip
    (subst (λ (trial : TrialData). IfOk c.shortest_cuts.result
    (λ (cuts : Option (List (List LinkId))).
    cuts ≡ certificate_of c.chip.result.now groups trial)) c.trial.ensures.trial
    c.shortest_cuts.ensures)

pub returns-clause-gives : goal.returns-clause-gives
returns-clause-gives c = gives (goal.at.returns-clause-gives c).After-shortest_cuts

-- It is one, or there is a candidate.
pub returns-clause-is : goal.returns-clause-is
returns-clause-is c =
    certificate-told c.args.judge.now.chip c.args.judge.now.groups c.args.judge.now.trial
    c.shortest_cuts.result c.chip.ensures.is_chip
    (gives (goal.at.returns-clause-is c).After-shortest_cuts)

-- Its cuts are in order.
pub returns-clause-order : goal.returns-clause-order
returns-clause-order c =
    certificate-order c.args.judge.now.chip c.args.judge.now.groups c.args.judge.now.trial
    c.shortest_cuts.result (gives (goal.at.returns-clause-order c).After-shortest_cuts)
