use Rattle.std.proofs.Common.{◌≡◌, ◌++◌}
use Rattle.aeth_demo.specs.{Streams.connection_text, Limits.mesh_routers, Pieces.texts_below}
use Rattle.aeth_demo.proofs.Loops.{texts_from}
use Rattle.aeth_demo.proofs.streams.push_round.Given as goal

-- What is there and what is still to come is the whole.
abbrev pub invariant-loop-i : goal.invariant-loop-i
invariant-loop-i l =
    l.text.items ++ texts_from (connection_text l.round l.per l.shift) mesh_routers l.i
    ≡ l.fn.text.items ++ texts_below (connection_text l.round l.per l.shift) mesh_routers
