use Rattle.std.proofs.Common.{◌≡◌, ◌≤◌, ◌-◌, length}
use Rattle.aeth_components.{specs.Injecting.AreInjecting, proofs.InjectLemmas.InjectedTo}
use Rattle.aeth_components.proofs.injecting.inject.Given as goal

-- The components so far have driven what they send, and who waits there is marked active.
abbrev pub invariant-numbers : goal.invariant-numbers
invariant-numbers g l = record {
  injected : InjectedTo l.cycle l.fn.parts l.fn.wires l.fn.enqueuing l.fn.steps l.number l.parts
      l.wires
      l.enqueuing l.steps;
  within : l.number ≤ length l.fn.parts;
  injecting : AreInjecting l.parts l.injecting;
  size : length l.injecting.slots ≡ length l.fn.injecting.slots;
}

abbrev pub decreases-numbers : goal.decreases-numbers
decreases-numbers g l = l.end - l.number
