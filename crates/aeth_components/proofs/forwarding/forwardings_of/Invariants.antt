use Rattle.std.proofs.Common.{map, take}
use Rattle.aeth_components.specs.Passing.{AreForwarded, way_of}
use Rattle.aeth_components.proofs.forwarding.forwardings_of.Given as goal

-- It is noted of the components so far.
abbrev pub invariant-loop-part : goal.invariant-loop-part
invariant-loop-part l = AreForwarded (map way_of (take l.part-index l.parts)) l.noted.items
