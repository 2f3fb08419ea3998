use Rattle.std.proofs.Common.{◌≡◌, ◌≤◌, arith, get_or, subst, sym}
use Rattle.std.proofs.lemmas.{Bool.Decides.nat_tests, Option.get_or_from_slice_get}
use Rattle.aeth_schedule.specs.{Windows.IsInWindow, declared.windows.Window.Window}
use Rattle.aeth_network.proofs.WindowLemmas.{within-to}
use Rattle.aeth_network.proofs.windows.is_over.Goals as goal

-- Its last cycle is not behind.
pub returns-then-place-windows-clause-over : goal.returns-then-place-windows-clause-over
returns-then-place-windows-clause-over c = λ yes t window at later is.
    let none : Window = record { until = 0; stop = 0; fin = 0; go = 0 } in
    let item = get_or c.args.windows.now c.args.place none in
    let same : item ≡ window =
    get_or_from_slice_get c.args.windows.now c.args.place window none at in
    let last = within-to item t (subst (λ (one : Window). IsInWindow one t) (sym same) is) in
    let first = c.max.ensures in
    let all = c.max-then-place-windows.ensures in
    let limit = c.from.ensures in
    let end : c.max-then-place-windows.result ≤ c.from.result = grind (arith, nat_tests) in
    omega arith
