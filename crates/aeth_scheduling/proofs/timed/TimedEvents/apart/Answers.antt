use Rattle.std.proofs.Common.{◌∙◌, ap, map}
use Rattle.aeth_schedule.specs.declared.timed.Timed.{Timed}
use Rattle.aeth_scheduling.proofs.BesideLemmas.{cycles-beside, events-beside}
use Rattle.aeth_scheduling.proofs.timed.TimedEvents.apart.Goals as goal

-- The two lists are those of the events with their cycles.
pub returns-clause-events : goal.returns-clause-events
returns-clause-events c =
    events-beside c.self.inside.events.items c.self.inside.cycles.items c.self.invariant
    ∙ ap (map (λ (one : Timed). one.event)) c.self.view_is

pub returns-clause-cycles : goal.returns-clause-cycles
returns-clause-cycles c =
    cycles-beside c.self.inside.events.items c.self.inside.cycles.items c.self.invariant
    ∙ ap (map (λ (one : Timed). one.cycle)) c.self.view_is
