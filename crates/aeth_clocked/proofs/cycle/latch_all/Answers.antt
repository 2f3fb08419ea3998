use Rattle.std.proofs.Common.{arith}
use Rattle.aeth_clocked.proofs.{OrderLemmas.AreChosen-order, Turns.Changed-turn, Turns.Changed-all}
use Rattle.aeth_clocked.proofs.cycle.latch_all.Goals as goal

-- One component latches.
pub loop-turn-preserved : goal.loop-turn-preserved
loop-turn-preserved g c =
    let C = g.C.Clocked in
    let order = c.args.order.now in
    Changed-turn (λ part. C.absorb part c.args.wires.now) order c.args.parts.now
    c.loop-turn.parts c.loop-turn.turn c.loop-turn.invariant
    (rw c.requires.order at (AreChosen-order order c.len-turn-end.ensures.order)) c.at.result
    c.index-parts-at.result c.latch.new.self c.at.ensures.number c.latch.ensures

-- All have latched.
pub returns : goal.returns
returns g c =
    let C = g.C.Clocked in
    let length_is = c.len-turn-end.ensures.length in
    Changed-all (λ part. C.absorb part c.args.wires.now) c.args.order.now c.args.parts.now
    c.loop-turn.parts c.loop-turn.turn c.loop-turn.invariant c.len-turn-end.ensures.order
    c.requires.order (omega arith)
