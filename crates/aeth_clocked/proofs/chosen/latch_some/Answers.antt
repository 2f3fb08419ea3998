use Rattle.std.proofs.{Common.arith, Common.get_or, lemmas.Option.slice_get-get_or}
use Rattle.aeth_clocked.proofs.{RestingTurns.Changed-rest, Turns.Changed-turn}
use Rattle.aeth_clocked.proofs.chosen.latch_some.Goals as goal

-- One component latches.
pub loop-turn-preserved : goal.loop-turn-preserved
loop-turn-preserved g c =
    let C = g.C.Clocked in
    let which = c.args.which.now in
    let turn = c.loop-turn.turn in
    let at = slice_get-get_or which turn 0 c.loop-turn-test.true in
    let steps = c.loop-turn.invariant.steps in
    let tick = c.tick.ensures in
    record {
      parts = Changed-turn (λ part. C.absorb part c.args.wires.now) which c.args.parts.now
          c.loop-turn.parts turn c.loop-turn.invariant.parts c.requires.chosen (get_or which turn 0)
          c.index-parts-which.result c.latch.new.self at c.latch.ensures;
      steps = omega arith;
    }

-- All are as if all had latched.
pub returns-clause-parts : goal.returns-clause-parts
returns-clause-parts g c =
    let C = g.C.Clocked in
    let over = c.loop-turn-test.false in
    Changed-rest (λ part. C.absorb part c.args.wires.now) c.args.which.now c.args.parts.now
    c.loop-turn.parts c.loop-turn.turn (omega arith) c.loop-turn.invariant.parts c.requires.rest
