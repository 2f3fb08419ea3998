use Rattle.std.proofs.Common.{◌≡◌, ◌+◌, ◌++◌, ◌∷◌, [], List, length, ap, subst, sym, arith}
use Rattle.std.proofs.lemmas.Bool.{not-true}
use Rattle.aeth_base.{specs.declared.ids.LinkId.LinkId, proofs.TestLemmas.true_from_IsTrue}
use Rattle.aeth_chip.specs.declared.node.Node.{Node}
use Rattle.aeth_paths.specs.{Least.PathsCost, Walk.GainsNothing, Walk.field_of, Walk.path_in}
use Rattle.aeth_paths.proofs.GiveUpLemmas.{far-none, nowhere-none}
use Rattle.aeth_paths.proofs.HopelessLemmas.{task-fewest, task-near, task-never, task-outdone}
use Rattle.aeth_paths.proofs.VainLemmas.{IsLonger, link-there, longer-is}
use Rattle.aeth_paths.proofs.search.is_vain.Goals.{After-link, After-push}
use Rattle.aeth_paths.proofs.search.is_vain.Goals as goal

-- The link is one of the chip.
pub link-requires : goal.link-requires
link-requires c =
    link-there c.args.task.now c.args.goal.now c.args.prefix.now c.args.link c.requires.task
    c.requires.link

-- The list with this link.
longer : (c : goal.After-link)
    → IsLonger c.args.task.now c.args.prefix.now c.args.link c.link.result.to
longer c =
    longer-is c.args.task.now c.args.goal.now c.args.prefix.now c.args.link c.requires.task
    c.requires.link c.link.result c.requires.prefix c.requires.goes c.link.ensures.link

over : (c : goal.After-push) → c.push.new.self ≡ c.args.prefix.now.path ++ c.args.link ∷ []
over c =
    rw (true_from_IsTrue c.push.result (c.push.ensures.room.1 c.requires.short)) at c.push.ensures.pushed

-- No path leads to the goal.
pub returns-in_default : goal.returns-in_default
returns-in_default c given =
    let at = longer (goal.at.returns-in_default c).After-link in
    subst (λ (n : Node). GainsNothing (field_of c.args.task.now c.args.goal.now)
    (path_in c.args.best.now) n (c.args.prefix.now.path ++ c.args.link ∷ [])) at.ends
    (nowhere-none (field_of c.args.task.now c.args.goal.now) (path_in c.args.best.now)
    c.link.result.to _ (task-never c.args.task.now c.args.goal.now c.link.result.to _
    c.requires.task at.stands c.in_default.ensures))

-- The goal is too far.
pub returns-then-links-goal : goal.returns-then-links-goal
returns-then-links-goal c given =
    let at = longer (goal.at.returns-then-links-goal c).After-link in
    let size = ap (λ (p : List LinkId). length p)
    (over (goal.at.returns-then-links-goal c).After-push) in
    subst (λ (n : Node). GainsNothing (field_of c.args.task.now c.args.goal.now)
    (path_in c.args.best.now) n (c.args.prefix.now.path ++ c.args.link ∷ [])) at.ends
    (far-none (field_of c.args.task.now c.args.goal.now) (path_in c.args.best.now)
    c.link.result.to _ c.in-Some.more (task-near c.args.task.now c.args.goal.now c.link.result.to _
    c.in-Some.more c.requires.task at.stands c.in-Some.ensures)
    (omega (arith, c.if-links-goal.true, c.len.ensures.len, size)))

-- It costs too much, or comes behind.
pub returns-in-Some-best : goal.returns-in-Some-best
returns-in-Some-best c given =
    let task = c.args.task.now in
    let pair = c.args.goal.now in
    let more = c.in-Some.more in
    let path : List LinkId = c.args.prefix.now.path ++ c.args.link ∷ [] in
    let at = longer (goal.at.returns-in-Some-best c).After-link in
    let same = over (goal.at.returns-in-Some-best c).After-push in
    let size = ap (λ (p : List LinkId). length p) same in
    let table : PathsCost (field_of task pair) c.link.result.to path c.cost_over.result =
    subst (λ (n : Node). PathsCost (field_of task pair) n path c.cost_over.result) (sym at.ends)
    c.cost_over.ensures in
    let fewest = task-fewest task pair c.link.result.to path more
    (c.args.prefix.now.cost + 1 + more) c.requires.task at.stands c.in-Some.ensures
    (omega (arith, at.dearer)) in
    subst (λ (n : Node). GainsNothing (field_of task pair) (path_in c.args.best.now) n path) at.ends
    (task-outdone task pair c.link.result.to path c.args.best.now c.in-Some-best.best more
    c.max-cost.result (c.len.result + more) c.requires.task
    at.stands c.in-Some.ensures c.requires.best c.in-Some-best.is
    (λ rest walks fits. omega (arith, c.max-cost.ensures, table rest walks fits, fewest rest walks fits))
    (omega (arith, c.len.ensures.len, size))
    (rw same at (c.may_precede.ensures (not-true _ (true_from_IsTrue _ given)))))
