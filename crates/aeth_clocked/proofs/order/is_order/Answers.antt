use Rattle.std.proofs.Common.{ℕ, ◌<◌, length, sym, refl, ◌∙◌, arith}
use Rattle.aeth_clocked.proofs.OrderLemmas.{IsOrder-passes, IsOrder-from_passes}
use Rattle.aeth_clocked.proofs.order.is_order.Goals as goal

-- A number that the list lacks stands in each order of its length.
pub returns-then-not-contains : goal.returns-then-not-contains
returns-then-not-contains c =
    let numbers = c.args.numbers.now in
    let lacking = c.loop-number.number-counter in
    let count = c.in-Ok.ensures in
    let fails = sym c.if-not-contains.true ∙ c.contains.ensures.value in
    (λ found. absurd cc, λ order. fails ∙ IsOrder-passes numbers order lacking (omega arith))

-- Each number below the length was found.
pub returns : goal.returns
returns c =
    let numbers = c.args.numbers.now in
    let count = c.in-Ok.ensures in
    let passes = λ (i : ℕ) (below : i < length numbers). c.loop-number.invariant i (omega arith) in
    (λ found. IsOrder-from_passes numbers count.0 passes, λ order. refl)
