use Rattle.std.proofs.Common.{IfSome, slice_get}
use Rattle.aeth_components.specs.Ends.{NotedTo}
use Rattle.aeth_components.proofs.ends.note_link.Given as goal

-- The wires so far have their receivers.
abbrev pub invariant-loop-place : goal.invariant-loop-place
invariant-loop-place l =
    IfSome (slice_get l.chip.links l.link.0)
    (λ found. NotedTo l.chip l.link.0 found l.fn.receivers l.receivers l.place)
