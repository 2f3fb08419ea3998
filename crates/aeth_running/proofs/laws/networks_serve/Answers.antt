use Rattle.aeth_group.specs.Members.{groups_of}
use Rattle.aeth_running.proofs.NetworkRuns.{serving}
use Rattle.aeth_running.proofs.laws.networks_serve.Goals as goal

-- In each cycle.
pub returns : goal.returns
returns c = serving (record { chips_begin = c.chips_begin.ensures; runs_begin = c.runs_begin.ensures })
    (record {
      prepared = c.components_are_prepared.ensures;
      follows = c.cycles_are_cycles.ensures.follows;
      exact = c.cycles_are_cycles.ensures.exact;
      keep_running = c.cycles_keep_running.ensures;
      counted = c.flits_are_counted.ensures;
      logged = c.sessions_are_logged.ensures;
      noted = c.landings_are_noted.ensures;
    })
    c.runs_have_routed_sessions.ensures
    (λ inputs accepted. c.switches.ensures.each inputs.chip inputs.app (groups_of inputs.app) inputs.plan)
    c.sessions_go.ensures.numbers c.sessions_go.ensures.early c.sessions_are_apart.ensures
    c.words_are_placed.ensures.places
    c.words_are_placed.ensures.values c.events_are_events.ensures.cycles
    c.events_are_events.ensures.loaded c.routed_sessions_are_over_chips.ensures.over
    c.routed_sessions_are_over_chips.ensures.rooms c.stimuli_are_stimuli.ensures
