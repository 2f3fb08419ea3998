use Rattle.std.proofs.Common.{get_or, refl}
use Rattle.aeth_schedule.specs.declared.windows.Window.{Window}
use Rattle.aeth_network.proofs.{Passed.passed-past, Passed.passed-test, WindowLemmas.begin_of}
use Rattle.aeth_network.proofs.windows.is_begun.Goals as goal

-- The window is there, and begins before the cycle as its place lies before.
pub returns-then-place-windows-clause-exact : goal.returns-then-place-windows-clause-exact
returns-then-place-windows-clause-exact c =
    let none : Window = record { until = 0; stop = 0; fin = 0; go = 0 } in
    let windows = c.args.windows.now in
    passed-test begin_of c.args.limit windows c.args.place none c.requires c.if-place-windows.true
    (begin_of (get_or windows c.args.place none)) c.from.result refl c.from.ensures

-- No window is there.
pub returns-else-place-windows-clause-exact : goal.returns-else-place-windows-clause-exact
returns-else-place-windows-clause-exact c =
    passed-past begin_of c.args.limit c.args.windows.now c.args.place c.if-place-windows.false
