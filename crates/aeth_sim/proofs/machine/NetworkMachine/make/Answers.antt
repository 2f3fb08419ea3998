use Rattle.std.proofs.Common.{◌≡◌, ◌∙◌, ◌-◌, ◌<◌, length}
use Rattle.std.proofs.lemmas.Result.{IfOk-weaker}
use Rattle.aeth_running.proofs.RouterTables.{headers-route}
use Rattle.aeth_running.specs.{Network.NetworkState, Network.first_network, Network.played}
use Rattle.aeth_running.specs.{Routing.ByHeaders, Logged.logged}
use Rattle.aeth_accepted.specs.Inputs.{inputs_with, run_of}
use Rattle.aeth_report.specs.RunLog.{log_of}
use Rattle.aeth_network.proofs.Playing.{first-count, first-left, first-plays}
use Rattle.aeth_sim.proofs.machine.NetworkMachine.make.Goals as goal

-- The log is that of the run.
pub returns-clause-plays : goal.returns-clause-plays
returns-clause-plays c =
    let inputs = inputs_with c.args.chip.now c.args.app.now c.args.plan.now c.args.words.now
    c.args.receivers.now c.args.switches.now c.args.cycles in
    IfOk-weaker c.new.result (λ (network : NetworkState). network ≡ first_network inputs ByHeaders)
    (λ (network : NetworkState). logged (played (network.log.cycles - network.time) network)
    ≡ log_of (run_of inputs))
    (λ network is. first-plays inputs ByHeaders network is
    ∙ c.networks_log.ensures inputs c.requires.accepted ByHeaders (headers-route inputs)) c.new.ensures.first

-- All cycles are left.
pub returns-clause-left : goal.returns-clause-left
returns-clause-left c =
    let inputs = inputs_with c.args.chip.now c.args.app.now c.args.plan.now c.args.words.now
    c.args.receivers.now c.args.switches.now c.args.cycles in
    IfOk-weaker c.new.result (λ (network : NetworkState). network ≡ first_network inputs ByHeaders)
    (λ (network : NetworkState). network.log.cycles - network.time ≡ c.args.cycles)
    (λ network is. first-left inputs ByHeaders network is) c.new.ensures.first

-- There are components.
pub returns-clause-count : goal.returns-clause-count
returns-clause-count c =
    let inputs = inputs_with c.args.chip.now c.args.app.now c.args.plan.now c.args.words.now
    c.args.receivers.now c.args.switches.now c.args.cycles in
    IfOk-weaker c.new.result (λ (network : NetworkState). network ≡ first_network inputs ByHeaders)
    (λ (network : NetworkState). 0 < length network.components.parts)
    (λ network is. first-count inputs c.requires.accepted ByHeaders network is) c.new.ensures.first
