use Rattle.aeth_routed_sessions.specs.RoutedSessions.{routed_sessions_of}
use Rattle.aeth_running.proofs.NetworkWires.{exact, received, standing}
use Rattle.aeth_running.proofs.laws.networks_lose_nothing.Goals as goal

-- Its wires are exact, and its components stand as the private servers say.
pub returns-clause-passed : goal.returns-clause-passed
returns-clause-passed c = λ inputs accepted routing routes t early.
    c.no_flit_is_lost.ensures.passed (routed_sessions_of inputs)
    (c.runs_have_routed_sessions.ensures inputs accepted) t _
    (exact inputs routing
    (c.networks_run.ensures inputs accepted routing routes) t early)

pub returns-clause-read : goal.returns-clause-read
returns-clause-read c = λ inputs accepted routing routes t early.
    c.no_flit_is_lost.ensures.read (routed_sessions_of inputs)
    (c.runs_have_routed_sessions.ensures inputs accepted) t _
    (exact inputs routing
    (c.networks_run.ensures inputs accepted routing routes) t early)

pub returns-clause-room : goal.returns-clause-room
returns-clause-room c = λ inputs accepted routing routes t within.
    c.queues_fit.ensures.buffer (routed_sessions_of inputs)
    (c.runs_have_routed_sessions.ensures inputs accepted) t _
    (standing inputs routing
    (c.networks_run.ensures inputs accepted routing routes) t within)

pub returns-clause-kept : goal.returns-clause-kept
returns-clause-kept c = λ inputs accepted routing routes t within.
    received inputs routing
    (c.networks_run.ensures inputs accepted routing routes) t within
