use Rattle.std.proofs.Common.{◌∙◌, ap, refl}
use Rattle.aeth_network.proofs.{Passed.passed-past, Passed.passed-test, PullLemmas.cycle_of}
use Rattle.aeth_network.proofs.next.is_before.Goals as goal

-- The row is there, and lies before the cycle as its own is below it.
pub returns-then-place-takes-clause-exact : goal.returns-then-place-takes-clause-exact
returns-then-place-takes-clause-exact c =
    passed-test cycle_of c.args.limit c.args.takes.now c.args.place c.index-takes-place.result
    c.requires c.if-place-takes.true c.row.inside.cycle c.args.limit
    (ap cycle_of (c.row.view_is ∙ c.index-takes-place.is)) refl

-- No row is there.
pub returns-else-place-takes-clause-exact : goal.returns-else-place-takes-clause-exact
returns-else-place-takes-clause-exact c =
    passed-past cycle_of c.args.limit c.args.takes.now c.args.place c.if-place-takes.false
