use Rattle.std.proofs.Common.{take}
use Rattle.aeth_components.specs.Enqueuing.{HasEvent, MarksActive}
use Rattle.aeth_components.proofs.enqueuing.Enqueuing.mark_active_for.Given as goal

-- Who waits at the interfaces of the events so far is marked.
abbrev pub invariant-loop-event : goal.invariant-loop-event
invariant-loop-event l = MarksActive (HasEvent (take l.event-index l.events)) l.fn.self l.self
