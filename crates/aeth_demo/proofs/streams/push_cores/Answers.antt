use Rattle.std.proofs.Common.{arith}
use Rattle.aeth_demo.specs.{Streams.core_text, Limits.mesh_routers}
use Rattle.aeth_demo.proofs.Loops.{text-begin, text-end, text-more}
use Rattle.aeth_demo.proofs.streams.push_cores.Goals as goal

-- No text is there.
pub loop-k-init : goal.loop-k-init
loop-k-init c = text-begin core_text c.args.text.now.items mesh_routers

-- One text more is there.
pub loop-k-preserved : goal.loop-k-preserved
loop-k-preserved c =
    let below = c.loop-k-test.true in
    text-more core_text _ _ _ mesh_routers c.loop-k.k
    (omega arith) c.loop-k.invariant c.in_ok-push_core.ensures

-- All of them are there.
pub returns : goal.returns
returns c =
    let past = c.loop-k-test.false in
    text-end core_text _ _ mesh_routers c.loop-k.k
    (omega arith) c.loop-k.invariant
