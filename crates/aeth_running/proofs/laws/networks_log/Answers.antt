use Rattle.aeth_running.proofs.NetworkLogs.{log-is}
use Rattle.aeth_running.proofs.laws.networks_log.Goals as goal

-- Channel by channel, session by session, and link by link.
pub returns : goal.returns
returns c = λ inputs accepted routing routes.
    log-is inputs routing accepted (c.runs_are_sound.ensures.sound inputs accepted)
    (c.routed_sessions_carry.ensures.first inputs accepted)
    (c.networks_run.ensures inputs accepted routing routes)
    (c.sessions_go.ensures.order inputs accepted) (c.sessions_are_apart.ensures inputs accepted)
    (c.sessions_go.ensures.session_starts inputs accepted)
