use Rattle.std.proofs.Common.{◌∙◌, ◌+◌}
use Rattle.aeth_chip.specs.Wires.{wire_at}
use Rattle.aeth_routed_sessions.specs.RoutedSessions.{routed_sessions_of}
use Rattle.aeth_running.proofs.NetworkWires.{carried, nothing-first, nothing-listed}
use Rattle.aeth_running.proofs.laws.networks_carry.Goals as goal

-- Its wires have what the routed sessions of its run carry.
pub returns-clause-first : goal.returns-clause-first
returns-clause-first c = λ inputs accepted routing routes l t early known.
    carried inputs routing
    (c.networks_run.ensures inputs accepted routing routes)
    (c.wires_carry.ensures (routed_sessions_of inputs)
    (c.runs_have_routed_sessions.ensures inputs accepted)) l t early
    ∙ c.routed_sessions_carry.ensures.first inputs accepted l t known

pub returns-clause-behind : goal.returns-clause-behind
returns-clause-behind c = λ inputs accepted routing routes link k within t early.
    carried inputs routing
    (c.networks_run.ensures inputs accepted routing routes)
    (c.wires_carry.ensures (routed_sessions_of inputs)
    (c.runs_have_routed_sessions.ensures inputs accepted))
    (wire_at inputs.chip.links link.0 k) (t + k) early
    ∙ c.routed_sessions_carry.ensures.behind inputs accepted link k within t

pub returns-clause-early : goal.returns-clause-early
returns-clause-early c = λ inputs accepted routing routes link k within t soon early.
    nothing-listed _
    (carried inputs routing
    (c.networks_run.ensures inputs accepted routing routes)
    (c.wires_carry.ensures (routed_sessions_of inputs)
    (c.runs_have_routed_sessions.ensures inputs accepted))
    (wire_at inputs.chip.links link.0 k) t early
    ∙ c.routed_sessions_carry.ensures.early inputs accepted link k within t soon)

pub returns-clause-empty : goal.returns-clause-empty
returns-clause-empty c = λ inputs accepted routing routes l.
    nothing-first inputs routing
    (c.networks_run.ensures inputs accepted routing routes) l
