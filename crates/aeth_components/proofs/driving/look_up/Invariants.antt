use Rattle.std.proofs.Common.{◌≡◌, ◌≤◌, ◌+◌, ℕ, length, take}
use Rattle.aeth_clocked.specs.Wires.{used_from}
use Rattle.aeth_components.proofs.LookUpLemmas.{HasCome, looked_up_from}
use Rattle.aeth_components.specs.FlitsOnWires.{flits_on}
use Rattle.aeth_components.proofs.driving.look_up.Given as goal

-- Tables were looked up for the wires so far, and else there is what was passed on before.
abbrev pub invariant-loop-wire : goal.invariant-loop-wire
invariant-loop-wire g l = record {
  from : ℕ;
  left : l.wire-iterator ≡ used_from l.fn.wires from;
  within : from ≤ length l.fn.wires;
  size : length l.onward ≡ length l.fn.wires;
  came : HasCome l.fn.parts l.fn.wires l.fn.ends l.fn.cycle
      (looked_up_from l.fn.parts l.fn.wires l.fn.ends l.fn.cycle from) l.onward;
  steps : l.steps ≤ l.fn.steps + flits_on (take from l.fn.wires);
}
