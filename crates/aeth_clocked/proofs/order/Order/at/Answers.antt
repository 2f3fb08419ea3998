use Rattle.std.proofs.Common.{◌≡◌, length, sym, ap, arith}
use Rattle.aeth_clocked.proofs.OrderLemmas.{IsOrder-below}
use Rattle.aeth_clocked.proofs.order.Order.at.Goals as goal

-- Each number of an order is below its length.
pub returns-clause-below : goal.returns-clause-below
returns-clause-below c =
    let numbers = c.self.inside.numbers.items in
    let same : length c.args.self.now ≡ length numbers = ap length (sym c.self.view_is) in
    let below = IsOrder-below numbers c.self.invariant c.args.place c.index.result.now in
    omega (arith, c.index.ensures, below)
