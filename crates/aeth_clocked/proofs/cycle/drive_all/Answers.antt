use Rattle.std.proofs.Common.{get_or, arith}
use Rattle.aeth_clocked.proofs.{OrderLemmas.AreChosen-order, Turns.Changed-next, Turns.Changed-turn}
use Rattle.aeth_clocked.proofs.{Turns.Changed-all, DrivenTurns.Drives-turn, DrivenTurns.Drives-all}
use Rattle.aeth_clocked.proofs.cycle.drive_all.Goals as goal

-- One component drives.
pub loop-turn-preserved : goal.loop-turn-preserved
loop-turn-preserved g c =
    let C = g.C.Clocked in
    let change = λ (part : g.row.C.Denot). C.after part c.args.cycle in
    let order = c.args.order.now in
    let old = c.args.parts.now in
    let now = c.loop-turn.parts in
    let turn = c.loop-turn.turn in
    let chosen = rw c.requires.order at (AreChosen-order order c.len-turn-end.ensures.order) in
    let changed = c.loop-turn.invariant.parts in
    let number = c.at.result in
    let at = c.at.ensures.number in
    let read = c.index-parts-at.result in
    record {
      parts = Changed-turn change order old now turn changed chosen number read
          c.drive.new.self at c.drive.ensures.after;
      wires = Drives-turn C.outputs old C.emit c.args.cycle order turn c.args.wires.now
          c.loop-turn.wires c.loop-turn.invariant.wires number (get_or now number read)
          c.drive.new.wires c.requires.disjoint at
          (Changed-next change order old now turn changed chosen number read at)
          c.drive.ensures.wires;
    }

-- All outputs have their flits.
pub returns-clause-wires : goal.returns-clause-wires
returns-clause-wires g c =
    let C = g.C.Clocked in
    let length_is = c.len-turn-end.ensures.length in
    Drives-all C.outputs c.args.parts.now C.emit c.args.cycle c.args.order.now
    c.loop-turn.turn c.args.wires.now c.loop-turn.wires c.loop-turn.invariant.wires
    c.len-turn-end.ensures.order c.requires.order (omega arith)

-- All components have driven.
pub returns-clause-parts : goal.returns-clause-parts
returns-clause-parts g c =
    let C = g.C.Clocked in
    let length_is = c.len-turn-end.ensures.length in
    Changed-all (λ part. C.after part c.args.cycle) c.args.order.now c.args.parts.now
    c.loop-turn.parts c.loop-turn.turn c.loop-turn.invariant.parts
    c.len-turn-end.ensures.order c.requires.order (omega arith)
