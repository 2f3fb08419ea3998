use Rattle.std.proofs.Common.{◌≡◌, ◌≤◌, ◌<◌, ◌==◌, if◌then◌else◌, ℕ, None, Some, length, slice_get}
use Rattle.std.proofs.Common.{slice_index}
use Rattle.aeth_clocked.specs.Wires.{flit_on}
use Rattle.aeth_components.proofs.replacing.lose.Given as goal

-- The wires so far have lost what goes to the component, and no later one has changed.
abbrev pub invariant-loop-wire : goal.invariant-loop-wire
invariant-loop-wire l = record {
  size : length l.wires ≡ length l.fn.wires;
  lost : (wire : ℕ) → wire < l.wire → wire < length l.fn.wires → slice_get l.wires wire
      ≡ Some (if slice_index l.receivers wire == l.number then None else flit_on l.fn.wires wire);
  left : (wire : ℕ) → l.wire ≤ wire → slice_get l.wires wire ≡ slice_get l.fn.wires wire;
}
