use Rattle.std.proofs.Common.{◌≤◌, ap, arith, length}
use Rattle.aeth_stimuli.specs.Stimuli.{Stimuli}
use Rattle.aeth_network.specs.Cursors.{routing_with, stimuli_with}
use Rattle.aeth_network.proofs.FirstLogs.{first-logged}
use Rattle.aeth_network.proofs.beginning.with_given.Goals as goal

-- There is room to note the channel of each session.
pub invariant_of-result : goal.invariant_of-result
invariant_of-result c =
    let starts = ap (λ (all : Stimuli). length all.schedule.session_starts) c.requires.given in
    let enough = c.in_ok-state.ensures.capacity in
    omega arith

-- With its log it is the first network.
pub returns-clause-first : goal.returns-clause-first
returns-clause-first c =
    first-logged c.args.inputs.now (stimuli_with c.args.given) (routing_with c.args.given) c.in_ok-state.state
    c.requires.given c.in_ok-state.ensures
