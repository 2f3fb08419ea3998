use Rattle.std.proofs.Common.{◌≡◌, ℕ}
use Rattle.aeth_base.specs.Marks.{marked_from}
use Rattle.aeth_router.proofs.ContendedLemmas.{AreLost}
use Rattle.aeth_router.proofs.onward.lose.Given as goal

-- The wires so far carry what has come to them.
abbrev pub invariant-loop-wire : goal.invariant-loop-wire
invariant-loop-wire l = record {
  from : ℕ;
  left : l.wire-iterator ≡ marked_from l.fn.contended from;
  lost : AreLost l.fn.first l.fn.contended l.first from;
}
