use Rattle.aeth_accepted.specs.Inputs.{run_of}
use Rattle.aeth_reconf.specs.Timeline.{timeline_of}
use Rattle.aeth_links.proofs.{CleanLemmas.log-clean, FlowLemmas.flows-fit}
use Rattle.aeth_links.proofs.laws.carried_logs_are_clean.Goals as goal

-- Each flit is one of the session for which its link is reserved, and goes from link to link.
pub returns : goal.returns
returns c inputs accepted cycles within =
    let run = run_of inputs in
    let sound = c.runs_are_sound.ensures.sound inputs accepted in
    log-clean run sound (flows-fit inputs accepted sound)
    (timeline_of run.design.groups run.spans run.switches)
    (c.timelines_have_sessions.ensures run.design.groups run.spans run.switches) cycles within
