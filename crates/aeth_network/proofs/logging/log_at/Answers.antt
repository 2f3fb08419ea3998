use Rattle.std.proofs.Common.{◌∙◌, ap, set, sym}
use Rattle.aeth_network.proofs.LoggingLemmas.{with_logged-past, with_logged-there}
use Rattle.aeth_network.proofs.logging.log_at.Goals as goal

-- The session is logged.
pub returns-then-place-sessions : goal.returns-then-place-sessions
returns-then-place-sessions c =
    ap (set c.args.sessions.now c.args.place) c.log_session.ensures
    ∙ with_logged-there c.args.cycles c.args.landings.now c.args.sessions.now c.args.place
    c.args.channel_state.now c.index-sessions-place.result c.if-place-sessions.true

-- There is none.
pub returns-else-place-sessions : goal.returns-else-place-sessions
returns-else-place-sessions c =
    sym (with_logged-past c.args.cycles c.args.landings.now c.args.sessions.now c.args.place
    c.args.channel_state.now c.if-place-sessions.false)
