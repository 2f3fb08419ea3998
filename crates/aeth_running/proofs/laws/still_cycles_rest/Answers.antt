use Rattle.aeth_running.proofs.{RestedNetworks.components-rest, RestedNetworks.passes-over}
use Rattle.aeth_running.proofs.{RestingNetworks.enqueues-rest, StillTables.no-enterings}
use Rattle.aeth_running.proofs.laws.still_cycles_rest.Goals as goal

-- Refilling enqueues nothing, no component sends, and no receiver takes.
pub returns-clause-components : goal.returns-clause-components
returns-clause-components c = λ inputs accepted routing routes t early still.
    let idle = (c.idle_cycles_are_still.ensures inputs accepted routing routes t early).0 still in
    let serving = c.networks_serve.ensures inputs accepted routing routes in
    components-rest inputs routing t (serving t early) still
    (enqueues-rest inputs routing (c.runs_have_routed_sessions.ensures inputs accepted)
    c.cycles_are_cycles.ensures.follows c.switches_are_made.ensures
    (c.events_are_events.ensures.cycles inputs accepted) (c.networks_run.ensures inputs accepted routing routes)
    serving t early still.empty idle.unoffered)

-- Nor does a session go, and no word is offered.
pub returns-clause-later : goal.returns-clause-later
returns-clause-later c = λ inputs accepted routing routes t early late still.
    let idle = (c.idle_cycles_are_still.ensures inputs accepted routing routes t early).0 still in
    let serving = c.networks_serve.ensures inputs accepted routing routes in
    passes-over inputs routing t (serving t early) still
    (enqueues-rest inputs routing (c.runs_have_routed_sessions.ensures inputs accepted)
    c.cycles_are_cycles.ensures.follows c.switches_are_made.ensures
    (c.events_are_events.ensures.cycles inputs accepted) (c.networks_run.ensures inputs accepted routing routes)
    serving t early still.empty idle.unoffered)
    (no-enterings inputs routing routes t idle.unswitched) late
