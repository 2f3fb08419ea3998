use Rattle.aeth_accepted.specs.Inputs.{run_of}
use Rattle.aeth_accepted.proofs.laws.links_carry_one.Goals as goal

-- The run is sound.
pub returns-clause-one : goal.returns-clause-one
returns-clause-one c = λ inputs accepted.
    c.links_carry.ensures.one (run_of inputs) (c.runs_are_sound.ensures.sound inputs accepted)

pub returns-clause-regular : goal.returns-clause-regular
returns-clause-regular c = λ inputs accepted.
    c.logs_are_regular.ensures (run_of inputs) (c.runs_are_sound.ensures.sound inputs accepted)
    (c.runs_are_sound.ensures.limits inputs accepted)
