use Rattle.std.proofs.Common.{◌≡◌, ◌++◌}
use Rattle.aeth_demo.specs.{Streams.core_text, Limits.mesh_routers, Pieces.texts_below}
use Rattle.aeth_demo.proofs.Loops.{texts_from}
use Rattle.aeth_demo.proofs.streams.push_cores.Given as goal

-- What is there and what is still to come is the whole.
abbrev pub invariant-loop-k : goal.invariant-loop-k
invariant-loop-k l =
    l.text.items ++ texts_from core_text mesh_routers l.k
    ≡ l.fn.text.items ++ texts_below core_text mesh_routers
