use Rattle.std.proofs.Common.{◌∙◌, ap}
use Rattle.aeth_running.specs.Network.{NetworkState}
use Rattle.aeth_network.proofs.RunWires.{wires-of}
use Rattle.aeth_network.proofs.network.RoutedNetwork.wires.Goals as goal

-- They carry what the run of accepted inputs does.
pub returns-clause-run : goal.returns-clause-run
returns-clause-run c = λ inputs is.
    let carry = c.networks_carry.ensures in
    let lose = c.networks_lose_nothing.ensures in
    let all = c.args.self.now in
    wires-of inputs all.routing
    (record {
      first = carry.first inputs is.accepted all.routing is.routed;
      behind = carry.behind inputs is.accepted all.routing is.routed;
      early = carry.early inputs is.accepted all.routing is.routed;
      empty = carry.empty inputs is.accepted all.routing is.routed;
      passed = lose.passed inputs is.accepted all.routing is.routed;
      read = lose.read inputs is.accepted all.routing is.routed;
    })
    c.wires.result.now c.args.self.now.time is.within
    (c.wires.ensures ∙ ap (λ (all : NetworkState). all.components.wires) (c.self.view_is ∙ is.is))
