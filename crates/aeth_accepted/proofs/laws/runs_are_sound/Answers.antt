use Rattle.aeth_group.specs.Members.{groups_of}
use Rattle.aeth_accepted.proofs.SoundRuns.{is_sound, within_limits}
use Rattle.aeth_accepted.proofs.TableFlows.{sessions-granted}
use Rattle.aeth_accepted.proofs.laws.runs_are_sound.Goals as goal

-- The spans are those of the plan.
pub returns-clause-sound : goal.returns-clause-sound
returns-clause-sound c = λ inputs accepted. is_sound inputs accepted
    (c.switches.ensures.each inputs.chip inputs.app (groups_of inputs.app) inputs.plan)

pub returns-clause-limits : goal.returns-clause-limits
returns-clause-limits c = within_limits

-- Each session is one of a use case.
pub returns-clause-granted : goal.returns-clause-granted
returns-clause-granted c = λ inputs accepted. sessions-granted inputs accepted
    (is_sound inputs accepted
    (c.switches.ensures.each inputs.chip inputs.app (groups_of inputs.app) inputs.plan))
