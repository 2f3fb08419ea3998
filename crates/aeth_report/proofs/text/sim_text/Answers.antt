use Rattle.std.proofs.Common.{length}
use Rattle.aeth_report.proofs.ChannelLemmas.{log-known}
use Rattle.aeth_report.proofs.text.sim_text.Goals as goal

-- A regular log has the channels of the application.
pub push_channels-requires-clause-known : goal.push_channels-requires-clause-known
push_channels-requires-clause-known c =
    rw c.deref.ensures.value
    (log-known (length c.args.app.now.connections) c.log.inside.channels.items
    (rw (← c.log.view_is) at c.requires.channels))
