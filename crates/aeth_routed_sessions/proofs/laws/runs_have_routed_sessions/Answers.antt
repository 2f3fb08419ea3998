use Rattle.aeth_group.specs.Members.{groups_of}
use Rattle.aeth_routed_sessions.proofs.RunRoutedSessions.{is_accepted}
use Rattle.aeth_routed_sessions.proofs.laws.runs_have_routed_sessions.Goals as goal

-- Premise by premise; the spans are those of the plan.
pub returns : goal.returns
returns c = λ inputs accepted. is_accepted inputs accepted
    (c.switches.ensures.each inputs.chip inputs.app (groups_of inputs.app) inputs.plan)
