use Rattle.std.proofs.Common.{arith, subst, sym}
use Rattle.aeth_chip.specs.{Chip.IsNode, declared.node.Node.Node}
use Rattle.aeth_paths.specs.{Least.CostsAtLeast, Search.Field, Task.field}
use Rattle.aeth_paths.proofs.LeastLemmas.{read-least}
use Rattle.aeth_paths.proofs.least.least_onward.Goals as goal

-- The entry of a router.
pub returns-in-Router : goal.returns-in-Router
returns-in-Router c router path =
    let task = c.args.task.now in
    let chip = task.chip.now in
    let f : Field = field task.book.now task.prices.now task.ask c.args.ni c.args.most in
    let inside = subst (IsNode chip.routers chip.nis) c.in-Router.is c.requires.node in
    let cost = read-least f c.args.least.now c.requires.least c.in-Router.router c.args.left path
    (omega (arith, c.routers-routers.ensures.most, inside, c.routers-routers.ensures.routers)) in
    subst (λ (n : Node). CostsAtLeast f n path c.args.left c.entry.result) (sym c.in-Router.is)
    (subst (CostsAtLeast f _ path c.args.left) (sym c.entry.ensures) cost)
