use Rattle.std.proofs.Common.{◌≡◌, ◌∙◌, ◌-◌, ◌<◌, length}
use Rattle.std.proofs.lemmas.Result.{IfOk-weaker}
use Rattle.aeth_running.proofs.RouterTables.{headers-route}
use Rattle.aeth_running.specs.{Network.NetworkState, Network.first_network, Network.played}
use Rattle.aeth_running.specs.{Routing.ByHeaders, Logged.logged}
use Rattle.aeth_accepted.specs.Inputs.{run_of}
use Rattle.aeth_machine.specs.RunInputs.{inputs_of}
use Rattle.aeth_report.specs.RunLog.{log_of}
use Rattle.aeth_network.proofs.Playing.{first-count, first-left, first-plays}
use Rattle.aeth_sim.proofs.machine.NetworkMachine.make_of.Goals as goal

-- The log is that of the run.
pub returns-clause-plays : goal.returns-clause-plays
returns-clause-plays c =
    let inputs = inputs_of c.args.design.now c.args.planned.now.plan c.args.traces c.args.cycles in
    IfOk-weaker c.of_traces.result (λ (network : NetworkState). network ≡ first_network inputs ByHeaders)
    (λ (network : NetworkState). logged (played (network.log.cycles - network.time) network)
    ≡ log_of (run_of inputs))
    (λ network is. first-plays inputs ByHeaders network is
    ∙ c.networks_log.ensures inputs c.requires.accepted ByHeaders (headers-route inputs)) c.of_traces.ensures.first

-- All cycles are left.
pub returns-clause-left : goal.returns-clause-left
returns-clause-left c =
    let inputs = inputs_of c.args.design.now c.args.planned.now.plan c.args.traces c.args.cycles in
    IfOk-weaker c.of_traces.result (λ (network : NetworkState). network ≡ first_network inputs ByHeaders)
    (λ (network : NetworkState). network.log.cycles - network.time ≡ c.args.cycles)
    (λ network is. first-left inputs ByHeaders network is) c.of_traces.ensures.first

-- There are components.
pub returns-clause-count : goal.returns-clause-count
returns-clause-count c =
    let inputs = inputs_of c.args.design.now c.args.planned.now.plan c.args.traces c.args.cycles in
    IfOk-weaker c.of_traces.result (λ (network : NetworkState). network ≡ first_network inputs ByHeaders)
    (λ (network : NetworkState). 0 < length network.components.parts)
    (λ network is. first-count inputs c.requires.accepted ByHeaders network is) c.of_traces.ensures.first
