use Rattle.aeth_accepted.specs.Inputs.{run_of}
use Rattle.aeth_routed_sessions.proofs.Carrying.{carried_behind, carried_early, carried_first}
use Rattle.aeth_routed_sessions.proofs.laws.routed_sessions_carry.Goals as goal

-- A link is at one place of a path, and its wires follow each other there.
pub returns-clause-first : goal.returns-clause-first
returns-clause-first c = λ inputs accepted. carried_first (run_of inputs) accepted.design.chip_is
    (c.runs_are_sound.ensures.sound inputs accepted)

pub returns-clause-behind : goal.returns-clause-behind
returns-clause-behind c = λ inputs accepted. carried_behind (run_of inputs)
    accepted.design.chip_is (c.runs_are_sound.ensures.sound inputs accepted)

pub returns-clause-early : goal.returns-clause-early
returns-clause-early c = λ inputs accepted. carried_early (run_of inputs)
    accepted.design.chip_is (c.runs_are_sound.ensures.sound inputs accepted)
