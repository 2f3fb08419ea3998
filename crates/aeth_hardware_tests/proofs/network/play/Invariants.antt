use Rattle.std.proofs.Common.{◌≡◌, length}
use Rattle.aeth_components.specs.Components.{wirings_of}
use Rattle.aeth_hardware_tests.proofs.network.play.Given as goal

-- The order fits the components, whose wirings stay.
abbrev pub invariant-loop-cycle : goal.invariant-loop-cycle
invariant-loop-cycle l = record {
  size : length l.pair.parts ≡ length l.fn.pair.parts;
  wirings : wirings_of l.pair ≡ wirings_of l.fn.pair;
}
