use Rattle.std.proofs.Common.{◌≤◌, ◌∙◌, ◌+◌, ℕ, List, ap, subst, slice_range}
use Rattle.aeth_stimuli.specs.Stimuli.{Offer}
use Rattle.aeth_network.specs.{Behind.passed, Windows.AreOver}
use Rattle.aeth_network.proofs.{MappedRows.events-range, QuietPlaces.cursors-calm}
use Rattle.aeth_network.proofs.given.Given.calm_rows.Goals as goal

-- The events are those of the cycle.
pub returns-clause-events : goal.returns-clause-events
returns-clause-events c =
    let schedule = c.args.self.now.schedule in
    let key = λ (cycle : ℕ). cycle in
    let last = c.behind-event.ensures.place ∙ ap (passed key (c.args.time + 1)) c.cycles.ensures in
    c.events.ensures
    ∙ ap (λ n. slice_range schedule.events n c.behind-event.result) c.requires.from.event_is
    ∙ ap (slice_range schedule.events (passed key c.args.time schedule.cycles)) last
    ∙ events-range c.args.time schedule.cycles schedule.events c.requires.order.event_cycles
    c.requires.order.events

-- The places are those of the next cycle.
pub returns-clause-behind : goal.returns-clause-behind
returns-clause-behind c =
    let next = c.args.time + 1 in
    cursors-calm c.args.from c.args.time _ _ c.behind-event.result c.behind-offer.result
    c.place_behind-window.result c.quiet_until.result c.requires.order c.requires.from
    c.requires.calm
    (c.behind-event.ensures.place ∙ ap (passed (λ (cycle : ℕ). cycle) next) c.cycles.ensures)
    (c.behind-offer.ensures.place
    ∙ ap (passed (λ (one : Offer). one.cycle) next) c.deref.ensures.value)
    (subst (AreOver c.place_behind-window.result next) c.windows.ensures
    c.place_behind-window.ensures)
    (subst (λ (cycles : List ℕ). passed (λ cycle. cycle) c.quiet_until.result cycles
    ≤ c.behind-event.result) c.cycles-2.ensures c.quiet_until.ensures.quiet)
    c.quiet_until.ensures.most
