use Rattle.std.proofs.{Common.arith, Common.get_or, lemmas.Option.slice_get-get_or}
use Rattle.aeth_clocked.proofs.{RestingTurns.Changed-rest, RestingTurns.Drives-rest}
use Rattle.aeth_clocked.proofs.{Turns.Changed-next, Turns.Changed-turn, DrivenTurns.Drives-turn}
use Rattle.aeth_clocked.proofs.chosen.drive_some.Goals as goal

-- One component drives.
pub loop-turn-preserved : goal.loop-turn-preserved
loop-turn-preserved g c =
    let C = g.C.Clocked in
    let change = λ (part : g.row.C.Denot). C.after part c.args.cycle in
    let which = c.args.which.now in
    let old = c.args.parts.now in
    let now = c.loop-turn.parts in
    let turn = c.loop-turn.turn in
    let chosen = c.requires.chosen in
    let changed = c.loop-turn.invariant.parts in
    let number = get_or which turn 0 in
    let at = slice_get-get_or which turn 0 c.loop-turn-test.true in
    let read = c.index-parts-which.result in
    let steps = c.loop-turn.invariant.steps in
    let tick = c.tick.ensures in
    record {
      parts = Changed-turn change which old now turn changed chosen number read
          c.drive.new.self at c.drive.ensures.after;
      wires = Drives-turn C.outputs old C.emit c.args.cycle which turn c.args.wires.now
          c.loop-turn.wires c.loop-turn.invariant.wires number (get_or now number read)
          c.drive.new.wires c.requires.disjoint at
          (Changed-next change which old now turn changed chosen number read at)
          c.drive.ensures.wires;
      steps = omega arith;
    }

-- All outputs have their flits.
pub returns-clause-wires : goal.returns-clause-wires
returns-clause-wires g c =
    let C = g.C.Clocked in
    let over = c.loop-turn-test.false in
    Drives-rest C.outputs C.emit C.after c.args.parts.now c.args.cycle c.args.which.now
    c.loop-turn.turn c.args.wires.now c.loop-turn.wires (omega arith) c.requires.disjoint
    c.loop-turn.invariant.wires c.requires.rest

-- All components are as if all had driven.
pub returns-clause-parts : goal.returns-clause-parts
returns-clause-parts g c =
    let C = g.C.Clocked in
    let over = c.loop-turn-test.false in
    Changed-rest (λ part. C.after part c.args.cycle) c.args.which.now c.args.parts.now
    c.loop-turn.parts c.loop-turn.turn (omega arith) c.loop-turn.invariant.parts
    (λ number part at left. (c.requires.rest number part at left).still)
