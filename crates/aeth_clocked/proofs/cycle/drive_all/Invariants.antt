use Rattle.std.proofs.Common.{take}
use Rattle.aeth_clocked.specs.{Wires.Drives, Driven.driven}
use Rattle.aeth_clocked.proofs.{Turns.Changed, DrivenTurns.is_output_among}
use Rattle.aeth_clocked.proofs.cycle.drive_all.Given as goal

-- The components whose turn has come have changed, and their outputs have their flits.
abbrev pub invariant-loop-turn : goal.invariant-loop-turn
invariant-loop-turn g l =
    let C = g.C.Clocked in
    let done = take l.turn l.order in
    let old = l.fn.parts in
    let flit_on = driven C.outputs C.emit old l.cycle in
    record {
      parts : Changed (λ part. C.after part l.cycle) done old l.parts;
      wires : Drives (is_output_among C.outputs old done) flit_on l.fn.wires l.wires;
    }
