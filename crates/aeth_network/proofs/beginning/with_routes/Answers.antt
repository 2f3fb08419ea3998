use Rattle.std.proofs.{Common.◌≡◌, Common.◌∙◌, Common.ap, lemmas.Result.IfOk-weaker}
use Rattle.aeth_running.specs.Network.{NetworkState, first_network}
use Rattle.aeth_network.specs.{Cursors.routing_with, Routes.routing_in, Runs.IsNetworkOf}
use Rattle.aeth_network.specs.{Unlogged.logged_with}
use Rattle.aeth_network.proofs.Playing.{first-of}
use Rattle.aeth_network.proofs.beginning.with_routes.Goals as goal

-- With its log it is the network of its inputs, before their first cycle.
pub returns-clause-first : goal.returns-clause-first
returns-clause-first c =
    let inputs = c.args.inputs.now in
    IfOk-weaker c.with_given.result
    (λ (network : NetworkState). logged_with inputs network
    ≡ first_network inputs (routing_with c.in_ok-given.given))
    (λ (network : NetworkState). logged_with inputs network
    ≡ first_network inputs (routing_in c.args.tables))
    (λ network is. is ∙ ap (first_network inputs) c.in_ok-given.ensures.routing)
    c.with_given.ensures.first

pub returns-clause-run : goal.returns-clause-run
returns-clause-run c =
    let inputs = c.args.inputs.now in
    let routing = routing_in c.args.tables in
    IfOk-weaker c.with_given.result
    (λ (network : NetworkState). logged_with inputs network ≡ first_network inputs routing)
    (λ (network : NetworkState). IsNetworkOf inputs (logged_with inputs network))
    (λ network. first-of inputs c.are_accepted.ensures routing c.requires.routed
    (logged_with inputs network)) (returns-clause-first c)
