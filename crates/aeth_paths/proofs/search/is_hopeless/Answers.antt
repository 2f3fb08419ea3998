use Rattle.std.proofs.Common.{◌∙◌, ◌+◌, List, Some, sym, subst, arith}
use Rattle.std.proofs.lemmas.Bool.{not-false, not-true}
use Rattle.aeth_base.proofs.TestLemmas.{true_from_IsTrue}
use Rattle.aeth_chip.specs.{LeastOnward.least_from, declared.node.Link.Link}
use Rattle.aeth_paths.specs.Walk.{IsLeastFrom, field_of, path_in}
use Rattle.aeth_paths.proofs.GiveUpLemmas.{dead-none, far-none, nowhere-none}
use Rattle.aeth_paths.proofs.HopelessLemmas.{least-told, open-from, task-near, task-never}
use Rattle.aeth_paths.proofs.HopelessLemmas.{task-fewest, task-outdone}
use Rattle.aeth_paths.proofs.LiveLemmas.{dead-stays, sized}
use Rattle.aeth_paths.proofs.search.is_hopeless.Goals as goal

-- No path leads to the goal.
pub returns-in_default-clause-none : goal.returns-in_default-clause-none
returns-in_default-clause-none c given =
    nowhere-none (field_of c.args.task.now c.args.goal.now) (path_in c.args.best.now)
    c.args.prefix.now.end c.args.prefix.now.path
    (task-never c.args.task.now c.args.goal.now c.args.prefix.now.end c.args.prefix.now.path
    c.requires.task c.requires.stands c.in_default.ensures)

-- The goal is too far.
pub returns-then-links-goal-clause-none : goal.returns-then-links-goal-clause-none
returns-then-links-goal-clause-none c given =
    far-none (field_of c.args.task.now c.args.goal.now) (path_in c.args.best.now)
    c.args.prefix.now.end c.args.prefix.now.path c.in-Some.more
    (task-near c.args.task.now c.args.goal.now c.args.prefix.now.end c.args.prefix.now.path
    c.in-Some.more c.requires.task c.requires.stands c.in-Some.ensures)
    (omega (arith, c.if-links-goal.true, c.len.ensures.len))

-- It costs too much, or comes behind.
pub returns-then-not-may_precede-clause-none : goal.returns-then-not-may_precede-clause-none
returns-then-not-may_precede-clause-none c given =
    task-outdone c.args.task.now c.args.goal.now c.args.prefix.now.end c.args.prefix.now.path
    c.args.best.now c.in-Some-best.best c.in-Some.more (c.args.prefix.now.cost + c.in-Some.more)
    (c.len.result + c.in-Some.more) c.requires.task c.requires.stands c.in-Some.ensures
    c.requires.best c.in-Some-best.is
    (task-fewest c.args.task.now c.args.goal.now c.args.prefix.now.end c.args.prefix.now.path
    c.in-Some.more (c.args.prefix.now.cost + c.in-Some.more) c.requires.task c.requires.stands
    c.in-Some.ensures (omega (arith, c.requires.prefix.cost)))
    (omega (arith, c.len.ensures.len)) (c.may_precede.ensures c.if-not-may_precede.true)

-- Its free starts are dead.
pub returns-clause-none : goal.returns-clause-none
returns-clause-none c given =
    let task = c.args.task.now in
    dead-none (field_of task c.args.goal.now) (path_in c.args.best.now) c.args.prefix.now.end
    c.args.prefix.now.path
    (λ rest. dead-stays task.book.now task.ask c.args.prefix.now.path rest
    (sized task.book.now c.requires.task.is_book) (sym c.is_live.ensures ∙ not-true _ (true_from_IsTrue _ given)))

-- Else it is open.
pub returns-clause-open : goal.returns-clause-open
returns-clause-open c given =
    let task = c.args.task.now in
    open-from (field_of task c.args.goal.now) (least_from task.chip.now c.args.goal.now.ni)
    c.args.prefix.now.end c.args.prefix.now.path c.in-Some.more
    (sym c.is_live.ensures ∙ not-false c.is_live.result given)
    (least-told task.chip.now c.requires.task.is_chip c.args.goal.now.ni c.args.prefix.now.end
    (Some c.in-Some.more)
    (subst (λ (ls : List Link). IsLeastFrom ls c.args.goal.now.ni c.args.prefix.now.end
    (Some c.in-Some.more)) c.requires.task.far c.in-Some.ensures))
    (omega (arith, c.if-links-goal.false, c.len.ensures.len))
