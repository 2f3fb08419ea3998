use Rattle.std.proofs.Common.{◌∙◌, ◌++◌, List, None, false, subst, sym}
use Rattle.aeth_base.{proofs.Members.map-Contains, proofs.TestLemmas.is_some-false}
use Rattle.aeth_base.{proofs.TestLemmas.is_some-true, specs.declared.ids.LinkId.LinkId}
use Rattle.aeth_chip.specs.declared.node.Node.TheVariants.{Ni, Router}
use Rattle.aeth_explain.specs.{Fronts.lists_below, TryPaths.MayTake, TryPaths.onward_lists}
use Rattle.aeth_explain.specs.{Walks.IsWalked}
use Rattle.aeth_explain.proofs.BelowLemmas.{walked-closed, walked-cut}
use Rattle.aeth_explain.proofs.StepLemmas.{open-may, tried-open}
use Rattle.aeth_explain.proofs.TryPathLemmas.{may_take-Decides}
use Rattle.aeth_explain.proofs.walks.put_cut.Goals as goal

-- A path goes on from it, and it is put down.
pub returns-in_ok-push : goal.returns-in_ok-push
returns-in_ok-push c =
    let listed = c.args.listed.now in
    let chip = listed.chip.now in
    let trial = listed.trial.now in
    let front = c.args.front.now in
    let is_chip = c.requires.tried.is_listed.is_chip in
    let lists : List (List LinkId) =
    lists_below chip.links c.args.left (Router front.router) front.path in
    let (path, some) = is_some-true c.open_below.result (sym c.is_some.ensures ∙ c.if-is_some.true) in
    let (among, may) = open-may c.args.judge.now listed c.requires.tried lists path
    (sym c.open_below.ensures ∙ some) in
    let (rest, same, on) = map-Contains (λ rest. front.path ++ rest)
    (onward_lists chip.links c.args.left (Router front.router)) path among in
    let takes = subst (MayTake chip trial) (sym same) ((may_take-Decides chip trial is_chip path).0 may)
    in
    subst (λ (new : List (List LinkId)). IsWalked chip c.args.judge.now.groups trial lists
    c.args.cuts.now false new) (sym c.in_ok-push.ensures.ok)
    (walked-cut chip c.args.judge.now.groups trial is_chip front.path c.requires.front.some
    c.requires.dead c.requires.fronts rest takes c.args.left (Router front.router) c.args.cuts.now)

-- None does.
pub returns-else-is_some : goal.returns-else-is_some
returns-else-is_some c =
    let listed = c.args.listed.now in
    let chip = listed.chip.now in
    let front = c.args.front.now in
    let lists : List (List LinkId) =
    lists_below chip.links c.args.left (Router front.router) front.path in
    let none = is_some-false c.open_below.result (sym c.is_some.ensures ∙ c.if-is_some.false) in
    walked-closed chip c.args.judge.now.groups listed.trial.now
    c.requires.tried.is_listed.is_chip (Ni c.args.sender.now.ni) (Router front.router) front.path
    c.args.left c.requires.front.some c.requires.front.end c.requires.room
    (tried-open c.args.judge.now listed c.requires.tried lists None (sym c.open_below.ensures ∙ none))
    c.args.cuts.now
