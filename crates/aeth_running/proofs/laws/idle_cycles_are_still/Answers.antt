use Rattle.aeth_group.specs.Members.{groups_of}
use Rattle.aeth_running.proofs.StillCycles.{idle-of, still-of}
use Rattle.aeth_running.proofs.laws.idle_cycles_are_still.Goals as goal

-- Field by field, both ways.
pub returns : goal.returns
returns c = λ inputs accepted routing routes t early.
    let spans = c.switches.ensures.each inputs.chip inputs.app (groups_of inputs.app) inputs.plan in
    let ok = c.runs_have_routed_sessions.ensures inputs accepted in
    let running = c.networks_run.ensures inputs accepted routing routes in
    let serving = c.networks_serve.ensures inputs accepted routing routes in
    let behind = c.networks_carry.ensures.behind inputs accepted routing routes in (
      idle-of inputs routing accepted spans ok running serving behind t early,
      still-of inputs routing accepted spans ok running serving behind t early,
    )
