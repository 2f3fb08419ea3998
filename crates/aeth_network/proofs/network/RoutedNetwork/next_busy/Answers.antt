use Rattle.aeth_network.proofs.NextBusy.{next-of-run}
use Rattle.aeth_network.proofs.network.RoutedNetwork.next_busy.Goals as goal

-- The cycles of a run that leave its network are idle.
pub returns-clause-run : goal.returns-clause-run
returns-clause-run c = λ inputs of.
    next-of-run inputs c.args.self.now of
    (c.idle_cycles_are_still.ensures inputs of.accepted c.args.self.now.routing of.routed)
    c.next_unstill.result c.next_unstill.ensures
