use Rattle.std.proofs.Common.{◌+◌, arith}
use Rattle.aeth_routed_sessions.specs.RoutedSessions.{routed_sessions_of}
use Rattle.aeth_running.proofs.{LosingNothing.loses-nothing, NetworkWires.standing}
use Rattle.aeth_running.proofs.laws.cycles_lose_nothing.Goals as goal

-- The wires are exact before the cycle and behind it, and the components stand as the private servers say.
pub returns : goal.returns
returns c = λ inputs accepted routing routes t early.
    let running = c.networks_run.ensures inputs accepted routing routes in
    let ok = c.runs_have_routed_sessions.ensures inputs accepted in
    loses-nothing inputs ok routing running t early
    (c.queues_fit.ensures.buffer (routed_sessions_of inputs) ok (t + 1) _
    (standing inputs routing running (t + 1) (omega (arith, early))))
