use Rattle.std.proofs.Common.{arith}
use Rattle.aeth_design_commands.specs.App.{need_text}
use Rattle.aeth_answers.proofs.Listing.{flat_map-take_more}
use Rattle.aeth_design_commands.proofs.app.push_needs.Goals as goal

-- The needs of one connection more stand behind those before.
pub loop-connection-preserved : goal.loop-connection-preserved
loop-connection-preserved c =
    let below = c.loop-connection-test.true in
    let count = c.connections-connection-end.ensures.connections in
    flat_map-take_more (need_text c.args.app.now.slots) c.args.text.now.items _ _
    c.args.app.now.connections c.loop-connection.connection (omega arith)
    c.loop-connection.invariant c.in_ok-push_need.ensures
