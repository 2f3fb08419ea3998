use Rattle.std.proofs.Common.{sym, arith}
use Rattle.aeth_slots.proofs.Ascending.{Ascends-wider}
use Rattle.aeth_plan.proofs.Places.{ascends_below, below_all}
use Rattle.aeth_plan.proofs.starts.set_is_below.Goals as goal

-- All slots of a set are below its size.
pub returns-then-size : goal.returns-then-size
returns-then-size c =
    let slots = c.args.set.now.slots in
    sym (below_all (λ start. start) c.args.size slots (ascends_below 0 c.args.size slots
    (Ascends-wider 0 c.args.set.now.size 0 c.args.size slots (omega arith)
    (omega (arith, c.size.ensures.size, c.if-size.true)) c.size.ensures.set.ascends)))
