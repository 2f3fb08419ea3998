use Rattle.std.proofs.Common.{◌≡◌, take}
use Rattle.aeth_components.specs.{Changes.switched, Injecting.AreInjecting}
use Rattle.aeth_components.proofs.phases.switch.Given as goal

-- The events so far are done, and noted.
abbrev pub invariant-loop-event : goal.invariant-loop-event
invariant-loop-event l = record {
  parts : l.parts ≡ switched (take l.event-index l.events) l.fn.parts;
  injecting : AreInjecting l.parts l.injecting;
}
