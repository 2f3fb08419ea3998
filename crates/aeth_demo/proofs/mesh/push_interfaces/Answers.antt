use Rattle.std.proofs.Common.{arith}
use Rattle.aeth_demo.specs.{Mesh.interface_links, Limits.mesh_routers}
use Rattle.aeth_demo.proofs.Loops.{text-begin, text-end, text-more}
use Rattle.aeth_demo.proofs.mesh.push_interfaces.Goals as goal

-- No text is there.
pub loop-k-init : goal.loop-k-init
loop-k-init c = text-begin interface_links c.args.text.now.items mesh_routers

-- One text more is there.
pub loop-k-preserved : goal.loop-k-preserved
loop-k-preserved c =
    let below = c.loop-k-test.true in
    text-more interface_links _ _ _ mesh_routers c.loop-k.k
    (omega arith) c.loop-k.invariant c.in_ok-push_interface.ensures

-- All of them are there.
pub returns : goal.returns
returns c =
    let past = c.loop-k-test.false in
    text-end interface_links _ _ mesh_routers c.loop-k.k
    (omega arith) c.loop-k.invariant
