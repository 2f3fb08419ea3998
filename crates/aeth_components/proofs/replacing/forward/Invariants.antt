use Rattle.std.proofs.Common.{◌≡◌, ◌≤◌, ℕ, length, take}
use Rattle.aeth_clocked.specs.Wires.{used_from}
use Rattle.aeth_components.{proofs.ForwardedLemmas.ForwardedTo, specs.FlitsOnWires.flits_on}
use Rattle.aeth_components.proofs.replacing.forward.Given as goal

-- The flits of the wires so far have been passed on, and are counted.
abbrev pub invariant-loop-wire : goal.invariant-loop-wire
invariant-loop-wire l = record {
  from : ℕ;
  left : l.wire-iterator ≡ used_from l.fn.wires from;
  within : from ≤ length l.fn.wires;
  all : l.all ≡ flits_on (take from l.fn.wires);
  size : length l.onward ≡ length l.fn.wires;
  forwarded : ForwardedTo l.fn.parts l.fn.wires l.fn.ends from l.onward;
}
