use Rattle.std.proofs.Common.{◌≡◌, ◌++◌}
use Rattle.aeth_demo.specs.{Mesh.interface_links, Limits.mesh_routers, Pieces.texts_below}
use Rattle.aeth_demo.proofs.Loops.{texts_from}
use Rattle.aeth_demo.proofs.mesh.push_interfaces.Given as goal

-- What is there and what is still to come is the whole.
abbrev pub invariant-loop-k : goal.invariant-loop-k
invariant-loop-k l =
    l.text.items ++ texts_from interface_links mesh_routers l.k
    ≡ l.fn.text.items ++ texts_below interface_links mesh_routers
