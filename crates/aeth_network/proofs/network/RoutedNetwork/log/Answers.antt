use Rattle.std.proofs.Common.{◌≡◌, ◌∙◌, ap, arith, length}
use Rattle.aeth_schedule.specs.declared.session_start.SessionStart.{SessionStart}
use Rattle.aeth_running.specs.Logged.{logged}
use Rattle.aeth_network.specs.{Cursors.routing_with, Cursors.stimuli_with, Networks.network_of}
use Rattle.aeth_network.specs.{Logging.channels_by}
use Rattle.aeth_network.proofs.{Passed.passed-few, Playing.log-of, LoggingLemmas.logged-by}
use Rattle.aeth_network.proofs.network.RoutedNetwork.log.Goals as goal

-- No more sessions have gone than there are.
pub log_sessions-requires-clause-replaced : goal.log_sessions-requires-clause-replaced
log_sessions-requires-clause-replaced c =
    let inside = c.self.inside in
    let few = passed-few (λ (one : SessionStart). one.channel_state.go) inside.time
    inside.given.schedule.session_starts in
    let gone = c.self.invariant.0.gone in
    let items = ap length c.deref-2.ensures.value in
    let session_starts = ap length c.session_starts.ensures in
    omega arith

-- So a counter can count them.
pub log_sessions-requires-clause-few : goal.log_sessions-requires-clause-few
log_sessions-requires-clause-few c =
    let inside = c.self.inside in
    let few = passed-few (λ (one : SessionStart). one.channel_state.go) inside.time
    inside.given.schedule.session_starts in
    let gone = c.self.invariant.0.gone in
    let most = c.self.invariant.0.few_session_starts in
    let items = ap length c.deref-2.ensures.value in
    omega arith

-- The log is filled.
pub returns-clause-logged : goal.returns-clause-logged
returns-clause-logged c =
    let inside = c.self.inside in
    let state = inside.state in
    let same : c.log_sessions.new.log ≡ record inside.log {
      channels = channels_by inside.log.cycles state.components.landings
          inside.given.schedule.session_starts state.replaced.items state.components.channel_states
          state.outside.items 0 inside.log.channels;
      flits = state.components.flits;
    } =
    rw (← c.session_starts.ensures, ← c.deref-2.ensures.value, ← c.deref.ensures.value)
    c.log_sessions.ensures in
    same ∙ logged-by
    (network_of (stimuli_with inside.given) (routing_with inside.given) state inside.log
    inside.time) ∙ ap logged c.self.view_is

-- It is that of the run of accepted inputs.
pub returns-clause-run : goal.returns-clause-run
returns-clause-run c = λ inputs is done.
    returns-clause-logged c ∙ log-of inputs c.args.self is done
    ∙ c.networks_log.ensures inputs is.accepted c.args.self.routing is.routed
