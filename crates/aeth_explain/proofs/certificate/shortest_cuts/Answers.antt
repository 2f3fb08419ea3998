use Rattle.std.proofs.Common.{◌∙◌, Bool, Ok, ap, false, true}
use Rattle.aeth_explain.specs.{TryPaths.leaving_lists, Walks.IsWalked}
use Rattle.aeth_explain.proofs.StepLemmas.{certificate-none, certificate-some, told-ok}
use Rattle.aeth_explain.proofs.certificate.shortest_cuts.Goals as goal

-- A path is live.
pub returns-then-found : goal.returns-then-found
returns-then-found c =
    let listed = c.args.listed.now in
    let chip = listed.chip.now in
    let trial = listed.trial.now in
    let groups = c.args.judge.now.groups in
    certificate-none chip groups trial
    (told-ok (λ (b : Bool). IsWalked chip groups trial (leaving_lists chip trial.from)
    c.new-cuts.result b c.walk_all.new.cuts) c.walk_all.result true
    (c.in_ok-found.was ∙ ap Ok c.if-found.true) c.walk_all.ensures)

-- None is, and these are the shortest cuts.
pub returns : goal.returns
returns c =
    let listed = c.args.listed.now in
    let chip = listed.chip.now in
    let trial = listed.trial.now in
    let groups = c.args.judge.now.groups in
    certificate-some chip groups trial c.new-cuts.result c.walk_all.new.cuts c.new-cuts.ensures
    (told-ok (λ (b : Bool). IsWalked chip groups trial (leaving_lists chip trial.from)
    c.new-cuts.result b c.walk_all.new.cuts) c.walk_all.result false
    (c.in_ok-found.was ∙ ap Ok c.if-found.false) c.walk_all.ensures)
