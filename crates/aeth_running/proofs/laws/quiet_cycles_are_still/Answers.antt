use Rattle.aeth_group.specs.Members.{groups_of}
use Rattle.aeth_running.proofs.QuietCycles.{quiet-of-still, still-of-quiet}
use Rattle.aeth_running.proofs.RestingNetworks.{enqueues-rest}
use Rattle.aeth_running.proofs.laws.quiet_cycles_are_still.Goals as goal

-- Field by field, both ways.
pub returns : goal.returns
returns c = λ inputs accepted routing routes t k early empty still.
    let spans = c.switches.ensures.each inputs.chip inputs.app (groups_of inputs.app) inputs.plan in
    let running = c.networks_run.ensures inputs accepted routing routes in
    let serving = c.networks_serve.ensures inputs accepted routing routes in
    let enqueues =
    enqueues-rest inputs routing (c.runs_have_routed_sessions.ensures inputs accepted)
    c.cycles_are_cycles.ensures.follows c.switches_are_made.ensures
    (c.events_are_events.ensures.cycles inputs accepted) running serving in
    let rests = c.still_cycles_rest.ensures.components inputs accepted routing routes in (
      quiet-of-still inputs routing routes accepted spans serving enqueues rests t k early empty
          still,
      still-of-quiet inputs routing routes accepted spans serving enqueues rests t k early empty
          still,
    )
