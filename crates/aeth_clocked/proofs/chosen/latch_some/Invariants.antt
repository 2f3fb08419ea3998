use Rattle.std.proofs.Common.{◌≡◌, ◌+◌, take}
use Rattle.aeth_clocked.proofs.Turns.{Changed}
use Rattle.aeth_clocked.proofs.chosen.latch_some.Given as goal

-- The components whose turn has come have latched, and each is counted.
abbrev pub invariant-loop-turn : goal.invariant-loop-turn
invariant-loop-turn g l =
    let C = g.C.Clocked in
    record {
      parts : Changed (λ part. C.absorb part l.wires) (take l.turn l.which) l.fn.parts l.parts;
      steps : l.steps ≡ l.fn.steps + l.turn;
    }
