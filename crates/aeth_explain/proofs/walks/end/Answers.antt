use Rattle.std.proofs.Common.{◌∙◌, [], List, false, subst, sym, append-nil}
use Rattle.aeth_base.specs.declared.ids.LinkId.{LinkId}
use Rattle.aeth_explain.specs.{Fronts.lists_below, TryPaths.MayTake, Walks.IsWalked}
use Rattle.aeth_explain.proofs.BelowLemmas.{walked-cut, walked-live}
use Rattle.aeth_explain.proofs.StepLemmas.{tried-dead, tried-links}
use Rattle.aeth_explain.proofs.TryPathLemmas.{may_take-Decides}
use Rattle.aeth_explain.proofs.walks.end.Goals as goal

-- The links are the chip's.
pub is_dead-requires : goal.is_dead-requires
is_dead-requires c =
    tried-links c.args.judge.now c.args.listed.now c.requires.tried c.args.path.now c.requires.links

-- It is dead, and put down.
pub returns-then-is_dead : goal.returns-then-is_dead
returns-then-is_dead c left node =
    let chip = c.args.listed.now.chip.now in
    let trial = c.args.listed.now.trial.now in
    let path = c.args.path.now in
    let is_chip = c.requires.tried.is_listed.is_chip in
    let may = subst (MayTake chip trial) (sym (append-nil path))
    ((may_take-Decides chip trial is_chip path).0 c.requires.may) in
    subst (λ (new : List (List LinkId)). IsWalked chip c.args.judge.now.groups trial
    (lists_below chip.links left node path) c.args.cuts.now false new) (sym c.in_ok-push.ensures.ok)
    (walked-cut chip c.args.judge.now.groups trial is_chip path c.requires.some
    (sym (tried-dead c.args.judge.now c.args.listed.now c.requires.tried path)
    ∙ sym c.is_dead.ensures ∙ c.if-is_dead.true) c.requires.fronts [] may left node c.args.cuts.now)

-- It is live.
pub returns : goal.returns
returns c left node =
    walked-live c.args.listed.now.chip.now c.args.judge.now.groups c.args.listed.now.trial.now
    c.requires.tried.is_listed.is_chip c.args.path.now c.requires.may
    (sym (tried-dead c.args.judge.now c.args.listed.now c.requires.tried c.args.path.now)
    ∙ sym c.is_dead.ensures ∙ c.if-is_dead.false) left node
