use Rattle.std.proofs.Common.{arith}
use Rattle.aeth_demo.specs.{Streams.connection_text, Limits.mesh_routers}
use Rattle.aeth_demo.proofs.Loops.{text-begin, text-end, text-more}
use Rattle.aeth_demo.proofs.streams.push_round.Goals as goal

-- No text is there.
pub loop-i-init : goal.loop-i-init
loop-i-init c =
    text-begin (connection_text c.args.round c.args.per c.args.shift) c.args.text.now.items
    mesh_routers

-- One text more is there.
pub loop-i-preserved : goal.loop-i-preserved
loop-i-preserved c =
    let below = c.loop-i-test.true in
    text-more (connection_text c.args.round c.args.per c.args.shift) _ _ _ mesh_routers c.loop-i.i
    (omega arith) c.loop-i.invariant c.in_ok-push_connection.ensures

-- All of them are there.
pub returns : goal.returns
returns c =
    let past = c.loop-i-test.false in
    text-end (connection_text c.args.round c.args.per c.args.shift) _ _ mesh_routers c.loop-i.i
    (omega arith) c.loop-i.invariant
