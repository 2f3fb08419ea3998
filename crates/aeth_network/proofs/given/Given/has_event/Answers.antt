use Rattle.std.proofs.Common.{◌≡◌, ◌<◌, ◌∙◌, ◌+◌, ℕ, ap, arith}
use Rattle.aeth_report.proofs.FinalCounts.{is_below}
use Rattle.aeth_stimuli.specs.Events.{events_in}
use Rattle.aeth_network.specs.{Behind.passed, Cursors.routing_with, Cursors.stimuli_with}
use Rattle.aeth_network.proofs.Skipping.{events-still}
use Rattle.aeth_network.proofs.given.Given.has_event.Goals as goal

-- Where none is of the cycle, no more lie before the next one.
pub returns : goal.returns
returns c = λ is none.
    let all = stimuli_with c.args.self.now in
    let routing = routing_with c.args.self.now in
    let t = c.args.time in
    let less : c.args.from.event < c.behind.result =
    (is_below c.args.from.event c.behind.result).0 is in
    let still : passed (λ (cycle : ℕ). cycle) (t + 1) all.schedule.cycles
    ≡ passed (λ (cycle : ℕ). cycle) t all.schedule.cycles =
    events-still all routing c.requires.order t 1 (λ j less.
    let same : t + j ≡ t = omega arith in
    ap (events_in all) same ∙ none) in
    let place = c.behind.ensures.place ∙ ap (passed (λ (cycle : ℕ). cycle) (t + 1)) c.cycles.ensures in
    let from = c.requires.from.event_is in
    omega (arith, less, still, place, from)
