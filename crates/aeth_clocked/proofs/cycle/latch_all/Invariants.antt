use Rattle.std.proofs.Common.{take}
use Rattle.aeth_clocked.proofs.Turns.{Changed}
use Rattle.aeth_clocked.proofs.cycle.latch_all.Given as goal

-- The components whose turn has come have latched.
abbrev pub invariant-loop-turn : goal.invariant-loop-turn
invariant-loop-turn g l =
    let C = g.C.Clocked in
    Changed (λ part. C.absorb part l.wires) (take l.turn l.order) l.fn.parts l.parts
