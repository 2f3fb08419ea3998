use Rattle.std.proofs.Common.{◌≤◌, ◌∙◌, ◌+◌, ℕ, List, ap, arith, map, subst, sym, slice_range}
use Rattle.aeth_schedule.specs.declared.session_start.SessionStart.{SessionStart}
use Rattle.aeth_schedule.specs.declared.session_start.SessionStartByLine.{SessionStartByLine}
use Rattle.aeth_stimuli.specs.Stimuli.{Offer, Take}
use Rattle.aeth_network.specs.{Behind.passed, Windows.AreOver}
use Rattle.aeth_network.proofs.MappedRows.{events-range, behind-keyed, length-keyed, passed-keyed}
use Rattle.aeth_network.proofs.MappedRows.{rises-keyed}
use Rattle.aeth_network.proofs.given.Given.rows.Goals as goal

-- Sessions go in the cycles of their list.
pub behind-session_start-requires-clause-order : goal.behind-session_start-requires-clause-order
behind-session_start-requires-clause-order c =
    rises-keyed (λ (one : SessionStartByLine). one.go)
    (λ (one : SessionStart). one.channel_state.go) c.list.result.now
    c.args.self.now.schedule.session_starts
    (c.list.ensures ∙ ap (map (λ (one : SessionStart). one.channel_state.go))
    c.session_starts-session_starts.ensures)
    c.requires.order.session_starts

pub behind-session_start-requires-clause-from : goal.behind-session_start-requires-clause-from
behind-session_start-requires-clause-from c =
    c.requires.from.session_start_is
    ∙ sym (passed-keyed (λ (one : SessionStartByLine). one.go)
    (λ (one : SessionStart). one.channel_state.go) c.args.time
    c.list.result.now c.args.self.now.schedule.session_starts
    (c.list.ensures ∙ ap (map (λ (one : SessionStart). one.channel_state.go))
    c.session_starts-session_starts.ensures))

-- So their places are places of sessions.
pub range-requires-clause-to : goal.range-requires-clause-to
range-requires-clause-to c =
    let same = length-keyed (λ (one : SessionStartByLine). one.go)
    (λ (one : SessionStart). one.channel_state.go)
    c.list.result.now c.session_starts-session_starts.result c.list.ensures in
    let within = c.behind-session_start.ensures.within in
    omega arith

pub returns-clause-session_starts : goal.returns-clause-session_starts
returns-clause-session_starts c =
    let session_starts = c.args.self.now.schedule.session_starts in
    let keys = c.list.ensures ∙ ap (map (λ (one : SessionStart). one.channel_state.go))
    c.session_starts-session_starts.ensures in
    let at = behind-keyed (λ (one : SessionStartByLine). one.go)
    (λ (one : SessionStart). one.channel_state.go) c.args.time
    c.list.result.now session_starts c.args.from.session_start c.behind-session_start.result keys
    c.requires.order.session_starts
    c.requires.from.session_start_is c.behind-session_start.ensures in
    c.range.ensures
    ∙ ap (λ (all : List SessionStart). slice_range all c.args.from.session_start
    c.behind-session_start.result)
    c.session_starts-session_starts.ensures
    ∙ at.rows_are

-- The events are those of the cycle.
pub returns-clause-events : goal.returns-clause-events
returns-clause-events c =
    let schedule = c.args.self.now.schedule in
    let key = λ (cycle : ℕ). cycle in
    let last = c.behind-event.ensures.place ∙ ap (passed key (c.args.time + 1)) c.cycles.ensures in
    c.events.ensures
    ∙ ap (λ n. slice_range schedule.events n c.behind-event.result) c.requires.from.event_is
    ∙ ap (slice_range schedule.events (passed key c.args.time schedule.cycles)) last
    ∙ events-range c.args.time schedule.cycles schedule.events c.requires.order.event_cycles
    c.requires.order.events

-- The places are those of the next cycle.
pub returns-clause-behind : goal.returns-clause-behind
returns-clause-behind c =
    let next = c.args.time + 1 in
    record {
      event_is = c.behind-event.ensures.place
          ∙ ap (passed (λ (cycle : ℕ). cycle) next) c.cycles.ensures;
      session_start_is = c.behind-session_start.ensures.place
          ∙ passed-keyed (λ (one : SessionStartByLine). one.go)
          (λ (one : SessionStart). one.channel_state.go) next
          c.list.result.now c.args.self.now.schedule.session_starts (c.list.ensures
          ∙ ap (map (λ (one : SessionStart). one.channel_state.go))
          c.session_starts-session_starts.ensures);
      offer_is = c.behind-offer.ensures.place
          ∙ ap (passed (λ (one : Offer). one.cycle) next) c.deref.ensures.value;
      take_is = c.behind-take.ensures.place
          ∙ ap (passed (λ (one : Take). one.cycle) next) c.deref-2.ensures.value;
      window_is = subst (AreOver c.place_behind-window.result next) c.windows.ensures
          c.place_behind-window.ensures;
      entering_is = c.behind_entering-entering.ensures.place;
      quiet = subst (λ (cycles : List ℕ). passed (λ cycle. cycle) c.quiet_until.result cycles
          ≤ c.behind-event.result) c.cycles-2.ensures c.quiet_until.ensures.quiet;
      calm = record {
        session_starts = c.calm_until-calm_until.ensures.session_starts;
        takes = c.calm_until-calm_until.ensures.takes;
        enterings = c.calm_until-calm_until.ensures.enterings;
      };
      sooner = c.quiet_until.ensures.most;
    }
